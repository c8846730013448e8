-- Lines as they are written, by computing.
use Rattle.std.proofs.Common.{◌≡◌, ℕ, List, refl, codes}
use Rattle.std.specs.Fmt.{digits}
use Rattle.erl_base.specs.declared.refusal.Kind.{Kind}
use Rattle.erl_base.specs.declared.refusal.Kind.TheVariants.{TooLarge, NotUtf8, Scope, Limit, Script}
use Rattle.erl_base.specs.declared.refusal.ScopeFault.TheVariants.{ClauseWidth}
use Rattle.erl_base.specs.declared.refusal.LimitName.TheVariants as Limits
use Rattle.erlc_cli.specs.declared.status.Status.TheVariants.{Refused, WriteFault}
use Rattle.erlc_cli.specs.Lines.{line_of}

-- the line of a refusal of that kind at line 1 and column 58 of in.core
abbrev line_at : Kind → List ℕ
line_at kind =
    line_of (Refused (record { kind = kind; place = record { line = 1; column = 58 } }))
    (codes "in.core") (codes "out.S")

too_large : line_at TooLarge ≡ codes "in.core: larger than 16777216 bytes\n"
too_large = refl

not_utf8 : line_at NotUtf8 ≡ codes "in.core:1:58: not UTF-8\n"
unfolding digits
not_utf8 = refl

scope : line_at (Scope ClauseWidth) ≡ codes "in.core:1:58: wrong clause width\n"
unfolding digits
scope = refl

integer : line_at (Limit Limits.Integer 39) ≡ codes "in.core:1:58: integer literal of 39 digits\n"
unfolding digits
integer = refl

nodes : line_at (Limit Limits.Nodes 20001) ≡ codes "in.core:1:58: 20001 nodes\n"
unfolding digits
nodes = refl

nesting : line_at (Limit Limits.Nesting 2001) ≡ codes "in.core:1:58: nesting 2001\n"
unfolding digits
nesting = refl

script : line_at Script ≡ codes "in.core: no script for this run\n"
script = refl

not_written : line_of WriteFault (codes "in.core") (codes "out.S") ≡ codes "out.S: cannot be written\n"
not_written = refl
