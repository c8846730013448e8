-- Two modules and their texts, letter by letter.
use Rattle.std.specs.Prelude.{ℕ, pos, negsuc, List, [], ◌∷◌, ◌++◌, codes}
use Rattle.beam_table.specs.Code as C
use Rattle.beam_table.specs.Code.{reg, x_reg, move, return, AsmModule}

-- `one/0` gives 1
abbrev pub one : AsmModule
one = record {
  name = codes "one";
  exports = record { name = codes "one"; arity = 0 } ∷ [];
  attributes = [];
  funs = record {
    key = record { name = codes "one"; arity = 0 };
    info = 1;
    entry = 2;
    code = move (C.integer (pos 1)) (x_reg 0) ∷ return ∷ [];
  } ∷ [];
}

-- its text, line by line
abbrev pub text_of_one : List ℕ
text_of_one =
    codes "{module,one}.\n"
    ++ codes "{exports,[{one,0}]}.\n"
    ++ codes "{attributes,[]}.\n"
    ++ codes "{labels,3}.\n"
    ++ codes "\n"
    ++ codes "{function,one,0,2}.\n"
    ++ codes "  {label,1}.\n"
    ++ codes "    {func_info,{atom,one},{atom,one},0}.\n"
    ++ codes "  {label,2}.\n"
    ++ codes "    {move,{integer,1},{x,0}}.\n"
    ++ codes "    return.\n"

-- `f/3` gives its last argument, `g/1` gives `x`, and `h_2@B/0`, which is not exported, gives -170
abbrev pub three : AsmModule
three = record {
  name = codes "m";
  exports = record { name = codes "g"; arity = 1 } ∷ record { name = codes "f"; arity = 3 } ∷ [];
  attributes = [];
  funs =
      record {
        key = record { name = codes "f"; arity = 3 };
        info = 1;
        entry = 2;
        code = move (reg (x_reg 2)) (x_reg 0)
            ∷ return ∷ [];
      }
      ∷ record {
        key = record { name = codes "g"; arity = 1 };
        info = 3;
        entry = 4;
        code = move (C.atom (codes "x")) (x_reg 0) ∷ return ∷ [];
      }
      ∷ record {
        key = record { name = codes "h_2@B"; arity = 0 };
        info = 11;
        entry = 10;
        code = move (C.integer (negsuc 169)) (x_reg 0) ∷ return ∷ [];
      }
      ∷ [];
}

-- its text, line by line
abbrev pub text_of_three : List ℕ
text_of_three =
    codes "{module,m}.\n"
    ++ codes "{exports,[{g,1},{f,3}]}.\n"
    ++ codes "{attributes,[]}.\n"
    ++ codes "{labels,12}.\n"
    ++ codes "\n"
    ++ codes "{function,f,3,2}.\n"
    ++ codes "  {label,1}.\n"
    ++ codes "    {func_info,{atom,m},{atom,f},3}.\n"
    ++ codes "  {label,2}.\n"
    ++ codes "    {move,{x,2},{x,0}}.\n"
    ++ codes "    return.\n"
    ++ codes "\n"
    ++ codes "{function,g,1,4}.\n"
    ++ codes "  {label,3}.\n"
    ++ codes "    {func_info,{atom,m},{atom,g},1}.\n"
    ++ codes "  {label,4}.\n"
    ++ codes "    {move,{atom,x},{x,0}}.\n"
    ++ codes "    return.\n"
    ++ codes "\n"
    ++ codes "{function,h_2@B,0,10}.\n"
    ++ codes "  {label,11}.\n"
    ++ codes "    {func_info,{atom,m},{atom,h_2@B},0}.\n"
    ++ codes "  {label,10}.\n"
    ++ codes "    {move,{integer,-170},{x,0}}.\n"
    ++ codes "    return.\n"
