-- A function in kernel form agrees with itself, node by node: so functions with the same meaning agree.
use Rattle.std.proofs.Common.{◌≡◌, ℕ, Bool, true, false, eqb, length, if◌then◌else◌, refl, subst, codes}
use Rattle.erl_base.specs.Names.{Name}
use Rattle.erl_term.specs.Term as T
use Rattle.erl_term.specs.Term.{Term}
use Rattle.erl_term.specs.Terms.{Values, only, word}
use Rattle.world_model.specs.Run.{State, M, give, fail}
use Rattle.world_model.specs.Meaning.{one}
use Rattle.step_machine.specs.Bodies.{BodyMeaning, here_of}
use Rattle.kernel_form.specs.Kernel.{Expr, values, simple, let_in, match_in, try, catch, receive, Tree, body, fall, either_in, switch, segments, step, guarded, case, Cases, no_case, and_case, seg_row, SegRows, no_row, and_row, Fun}
use Rattle.kernel_meaning.specs.Environment.{no_values, with_values, Setting}
use Rattle.kernel_meaning.specs.KernelRun.{meaning, fun_does}
use Rattle.pass_contract.specs.SameRun.{Compared, SameState, SameResult, Agree, EntersAgree}
use Rattle.kernel_meaning.specs.Agreement.{ExprAgrees, NodeAgrees, CasesAgree, RowsAgree, AgreesAtNodes}
use Rattle.kernel_meaning.proofs.Agreeing.{give_agrees, fail_agrees, bind_agrees}
use Rattle.kernel_meaning.proofs.Congruences.{values_same, simple_same, let_same, match_same, try_same, catch_same, receive_same, body_same, fall_same, either_same, no_case_same, case_same, switch_same, no_row_same, row_same, segments_same, step_same, guarded_same}

module _ (what : Compared) (w : Setting) where
  mutual
    pub expr_steady : (e : Expr) → ExprAgrees what w e e
    expr_steady (values vs) = values_same what w vs
    expr_steady (simple s) = simple_same what w s
    expr_steady (let_in xs a b) = let_same what w xs a b a b refl (expr_steady a) (expr_steady b)
    expr_steady (match_in t) = match_same what w t t (tree_steady t)
    expr_steady (try a xs b ys c) =
        try_same what w a b c a b c xs ys (expr_steady a) (expr_steady b) (expr_steady c)
    expr_steady (catch a) = catch_same what w a a (expr_steady a)
    expr_steady (receive n x t v b) = receive_same what w n x t t v b b (tree_steady t) (expr_steady b)

    pub tree_steady : (t : Tree) → NodeAgrees what w t t
    tree_steady (body e) = body_same what w e e (expr_steady e)
    tree_steady (fall k) = fall_same what w k
    tree_steady (either_in k a b) = either_same what w k a b a b (tree_steady a) (tree_steady b)
    tree_steady (switch x cs t) = switch_same what w x cs cs t t (cases_steady cs) (tree_steady t)
    tree_steady (segments x rs t) = segments_same what w x rs rs t t (rows_steady rs) (tree_steady t)
    tree_steady (step z a b) = step_same what w z a b a b (tree_steady a) (tree_steady b)
    tree_steady (guarded e a b) =
        guarded_same what w e e a b a b (expr_steady e) (tree_steady a) (tree_steady b)

    cases_steady : (cs : Cases) → CasesAgree what w cs cs
    cases_steady no_case = no_case_same what w
    cases_steady (and_case (case h xs t) cs) =
        case_same what w h xs t t cs cs (tree_steady t) (cases_steady cs)

    rows_steady : (rs : SegRows) → RowsAgree what w rs rs
    rows_steady no_row = no_row_same what w
    rows_steady (and_row (seg_row ss t) rs) = row_same what w ss t t rs rs (tree_steady t) (rows_steady rs)

pub agrees_at_nodes : AgreesAtNodes
agrees_at_nodes = record { exprs = expr_steady; trees = tree_steady }

-- two bodies that do the same where the functions that they enter agree
abbrev BodyAgrees : Compared → BodyMeaning → BodyMeaning → Type 0
BodyAgrees what old new =
    (name : Name) (own : Term) (f g : ℕ → Values → M Term) → EntersAgree what f g → (vs : Values) (s t : State)
    → SameState what s t →
    SameResult what (old (here_of name own f) vs s) (new (here_of name own g) vs t)

fun_agrees_with_itself : (what : Compared) (w : Setting) (k : Fun) → BodyAgrees what (fun_does w k) (fun_does w k)
unfolding fun_does
fun_agrees_with_itself what w k name own f g enters vs = by (eqb (length vs) (length k.params))
  where
    by : (b : Bool) → Agree what
        (if b then one (meaning w (here_of name own f) k.body (with_values no_values k.params vs) true) give
        else fail T.error (word (codes "undef")))
        (if b then one (meaning w (here_of name own g) k.body (with_values no_values k.params vs) true) give
        else fail T.error (word (codes "undef")))
    by true = bind_agrees what _ _ _ _
        (expr_steady what w k.body name own f g enters (with_values no_values k.params vs) true)
        (λ us. give_agrees what (only us))
    by false = fail_agrees what _ _

pub same_bodies : (what : Compared) (w : Setting) (old new : Fun) → fun_does w old ≡ fun_does w new
    → BodyAgrees what (fun_does w old) (fun_does w new)
same_bodies what w old new e =
    subst (λ m. BodyAgrees what (fun_does w old) m) e (fun_agrees_with_itself what w old)
