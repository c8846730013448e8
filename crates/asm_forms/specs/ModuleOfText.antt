-- The module that a text has, and where the first fault of any other text is.
use Rattle.std.specs.Prelude.{◌≡◌, ℕ, zero, suc, List, map, length, take, Bool, ◌&&◌, ltb, Option, Some, None, if◌then◌else◌, IsTrue, IsUtf8, chars}
use Rattle.std.specs.Str.{is_utf8}
use Rattle.std.specs.Str.Lossy.{utf8_valid_len}
use Rattle.erl_base.specs.Names.{same_name, same_key, is_key, keys_distinct}
use Rattle.erl_term.specs.Term.{Term}
use Rattle.term_read.specs.Lexemes.{◌>>=◌}
use Rattle.form_read.specs.Forms.{TextForm, IsFormText, form_start, next_form}
use Rattle.beam_table.specs.Code.{AsmModule}
use Rattle.beam_table.specs.OperandBounds.{label_ok}
use Rattle.beam_table.specs.ValidModule.{every, distinct, all_labels, entries_of, fun_ok, attribute_ok, Valid}
use Rattle.asm_forms.specs.Stages.{FunForms, Head, Stage, at_start, stage_behind, stage_behind_all, whole_head}

-- the module of forms
abbrev pub module_of_head : Head → AsmModule
module_of_head h =
    record { name = h.name; exports = h.exports; attributes = h.attributes; funs = map (λ f. f.fun) h.funs }

-- a func_info that says where it stands
abbrev pub func_info_agrees : Head → FunForms → Bool
func_info_agrees h f = same_name h.name f.home && same_key f.fun.key f.named

-- what no single form shows: each func_info says where it stands, labels are below N, and the module is valid
pub record FormsAgree (h : Head) : Type 0 where
  pub infos : IsTrue (every (func_info_agrees h) h.funs)
  pub below : IsTrue (every (λ l. ltb l h.limit) (all_labels (module_of_head h).funs))
  pub valid : Valid (module_of_head h)

-- terms that are, in their order, the forms of a module
pub record FormsOf (ts : List Term) (a : AsmModule) : Type 0 where
  pub head : Head
  pub ordered : (stage_behind_all at_start ts >>= whole_head) ≡ Some head
  pub agree : FormsAgree head
  pub whole : module_of_head head ≡ a

-- characters that have a module: those of its forms
pub record CharactersOf (cs : List ℕ) (a : AsmModule) : Type 0 where
  pub forms : List TextForm
  pub spelled : IsFormText cs forms
  pub read : FormsOf (map (λ f. f.term) forms) a

-- a text that has a module
pub record AssemblyText (bytes : List ℕ) (a : AsmModule) : Type 0 where
  pub utf8 : IsUtf8 bytes
  pub characters : CharactersOf (chars bytes) a

-- The first fault.

-- whether a module is valid
unfoldable pub is_valid : AsmModule → Bool
unfolding fun_ok attribute_ok
is_valid a =
    every label_ok (all_labels a.funs) && distinct (all_labels a.funs)
    && every (fun_ok (entries_of a.funs)) a.funs
    && (keys_distinct a.exports && every (λ f. is_key f (map (λ g. g.key) a.funs)) a.exports)
    && every attribute_ok a.attributes

-- whether its forms agree
abbrev pub forms_agree : Head → Bool
forms_agree h =
    every (func_info_agrees h) h.funs && every (λ l. ltb l h.limit) (all_labels (module_of_head h).funs)
    && is_valid (module_of_head h)

-- at the end of the text
abbrev pub fault_at_end : (total : ℕ) → Option Head → Option ℕ
fault_at_end total None = Some total
fault_at_end total (Some h) = if forms_agree h then None else Some total

-- at a form, where no other may stand; else behind it
abbrev pub fault_by_stage : (here : ℕ) → (Stage → Option ℕ) → Option Stage → Option ℕ
fault_by_stage here later None = Some here
fault_by_stage here later (Some u) = later u

-- at what is no form; else at the end, or by the form
abbrev pub fault_by_form : (here : ℕ) (at_end : Option ℕ) → (Term × List ℕ → Option ℕ)
    → Option (Option (Term × List ℕ)) → Option ℕ
fault_by_form here at_end later None = Some here
fault_by_form here at_end later (Some None) = at_end
fault_by_form here at_end later (Some (Some f)) = later f

-- how many of a text's characters stand before its first fault, by what is left of it; at most so many forms are read
abbrev pub fault_behind : (most total : ℕ) → Stage → List ℕ → Option ℕ
fault_behind zero total s cs = Some total
fault_behind (suc n) total s cs =
    fault_by_form (form_start total cs) (fault_at_end total (whole_head s))
    (λ f. fault_by_stage (form_start total cs) (λ u. fault_behind n total u f.1) (stage_behind s f.0)) (next_form cs)

-- the same, of a text of characters
unfoldable pub fault_in : List ℕ → Option ℕ
fault_in cs = fault_behind (suc (length cs)) (length cs) at_start cs

-- how many characters stand before the first fault of a text; none where it has a module. What is no UTF-8 has its
-- fault just behind its longest front that is
unfoldable pub fault_at : List ℕ → Option ℕ
fault_at bytes =
    if is_utf8 bytes then fault_in (chars bytes) else Some (length (chars (take (utf8_valid_len bytes) bytes)))
