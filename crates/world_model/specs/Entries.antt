-- How a function of the module is entered.
use Rattle.std.specs.Prelude.{ℕ, zero, suc, Bool}
use Rattle.erl_term.specs.Term.{Term}
use Rattle.erl_term.specs.Terms.{Values}
use Rattle.world_model.specs.Run.{Entry, entered, spent, M, ◌>>=◌, noting}
use Rattle.world_model.specs.Meaning.{single}

-- an entry takes one of those that are left; where none is, the run is spent and the entry is not noted
abbrev pub entry_left : {A : Type 0} → ℕ → Entry → M A → M A
entry_left zero e go s = (s, spent)
entry_left (suc n) e go s = go (noting (entered e) (record s { left = n }))

-- what is done behind an entry, with those that a run has left
abbrev pub counted : {A : Type 0} → Entry → M A → M A
counted e go = λ s. entry_left s.left e go s

-- a call of the function at a site; a tail entry is a call by name in tail position
abbrev pub enter_site : (ℕ → Values → M Term) → ℕ → Bool → Values → M Values
enter_site enter site tail vs = counted (record { site = site; tail = tail }) (enter site vs) >>= single
