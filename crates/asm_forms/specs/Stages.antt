-- The order of the forms of an assembly text: which form may stand next, and what is known of the module behind it.
use Rattle.std.specs.Prelude.{ℕ, List, [], ◌∷◌, ◌++◌, eqb, Option, Some, None, if◌then◌else◌}
use Rattle.std.specs.Option.{option_map}
use Rattle.erl_base.specs.Names.{Name}
use Rattle.erl_base.specs.declared.ids.FunKey.{FunKey}
use Rattle.erl_term.specs.Term.{Term}
use Rattle.term_read.specs.Lexemes.{◌>>=◌}
use Rattle.beam_table.specs.Code.{Insn, AsmFun}
use Rattle.insn_terms.specs.Reading.{insn_of}
use Rattle.asm_forms.specs.FormParts.{module_form_of, exports_form_of, attributes_form_of, labels_form_of, function_form_of, func_info_form_of, label_form_of, is_dropped}

-- a function, and what its func_info says: the module and the function
pub record FunForms : Type 0 where
  pub fun : AsmFun
  pub home : Name
  pub named : FunKey

-- what is known of a module behind {labels,N}: N, and the functions that are read to their end
pub record Head : Type 0 where
  pub name : Name
  pub exports : List FunKey
  pub attributes : List (Name × Term)
  pub limit : ℕ
  pub funs : List FunForms

-- where a text is: what stands before is known
pub data Stage : Type 0 where
  at_start : Stage
  behind_module : (name : Name) → Stage
  behind_exports : (name : Name) (exports : List FunKey) → Stage
  behind_attributes : (name : Name) (exports : List FunKey) (attributes : List (Name × Term)) → Stage
  -- no function has begun
  behind_labels : Head → Stage
  -- in the head of a function: its name and arity, and its entry label
  behind_function : Head → (key : FunKey) (entry : ℕ) → Stage
  behind_info : Head → (key : FunKey) (entry info : ℕ) → Stage
  behind_func_info : Head → FunForms → Stage
  -- behind the entry label, or an instruction
  in_code : Head → FunForms → Stage

-- a function that has come to its end
abbrev pub with_function : Head → FunForms → Head
with_function h f = record h { funs = h.funs ++ f ∷ [] }

-- and one with an instruction more
abbrev pub with_insn : FunForms → Insn → FunForms
with_insn f i = record f { fun = record f.fun { code = f.fun.code ++ i ∷ [] } }

-- a function whose head has been read
abbrev pub begun : FunKey → ℕ → ℕ → Name × FunKey → FunForms
begun k entry info p =
    record { fun = record { key = k; info = info; entry = entry; code = [] }; home = p.0; named = p.1 }

-- in code: a function begins, or an instruction stands there
abbrev pub code_or_function : Option (FunKey × ℕ) → Head → FunForms → Term → Option Stage
code_or_function (Some p) h f t = Some (behind_function (with_function h f) p.0 p.1)
code_or_function None h f t = option_map (λ i. in_code h (with_insn f i)) (insn_of t)

-- the stage behind the next form; there is none where another form must stand
abbrev pub next_stage : Stage → Term → Option Stage
next_stage at_start t = option_map behind_module (module_form_of t)
next_stage (behind_module m) t = option_map (behind_exports m) (exports_form_of t)
next_stage (behind_exports m es) t = option_map (behind_attributes m es) (attributes_form_of t)
next_stage (behind_attributes m es ps) t =
    option_map (λ n. behind_labels (record { name = m; exports = es; attributes = ps; limit = n; funs = [] }))
    (labels_form_of t)
next_stage (behind_labels h) t = option_map (λ p. behind_function h p.0 p.1) (function_form_of t)
next_stage (behind_function h k l) t = option_map (behind_info h k l) (label_form_of t)
next_stage (behind_info h k entry info) t =
    option_map (λ p. behind_func_info h (begun k entry info p)) (func_info_form_of t)
next_stage (behind_func_info h f) t =
    label_form_of t >>= λ l. if eqb l f.fun.entry then Some (in_code h f) else None
next_stage (in_code h f) t = code_or_function (function_form_of t) h f t

-- behind {labels,N}, forms that say nothing are dropped
abbrev pub or_dropped : Stage → Term → Option Stage
or_dropped s t = if is_dropped t then Some s else next_stage s t

-- the stage behind a form
abbrev pub stage_behind : Stage → Term → Option Stage
stage_behind at_start t = next_stage at_start t
stage_behind (behind_module m) t = next_stage (behind_module m) t
stage_behind (behind_exports m es) t = next_stage (behind_exports m es) t
stage_behind (behind_attributes m es ps) t = next_stage (behind_attributes m es ps) t
stage_behind s t = or_dropped s t

-- the stage behind forms in their order
abbrev pub stage_behind_all : Stage → List Term → Option Stage
stage_behind_all s [] = Some s
stage_behind_all s (t ∷ ts) = stage_behind s t >>= λ u. stage_behind_all u ts

-- what is known where no form is missing
abbrev pub whole_head : Stage → Option Head
whole_head (behind_labels h) = Some h
whole_head (in_code h f) = Some (with_function h f)
whole_head _ = None
