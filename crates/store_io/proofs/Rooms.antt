-- What is told of rooms through the calls of a loop.
use Rattle.std.proofs.Common.{◌≡◌, ◌<◌, ◌↔◌, ℕ, List, length, take, Option, None, Some, IfSome, IsSome, refl, ap, ◌∙◌, arith, length-take, subst}
use Rattle.store_io.specs.Files.{Files, Rooms, Alike, Same, OthersStay, HasNoRoom, LacksRoom, content}
use Rattle.store_io.proofs.Alike.{alike_then}

pub rooms_then : {A : Type 0} (x y z : Option (List ℕ → Option A)) → Alike x y Same → Alike y z Same → Alike x z Same
rooms_then x y z = alike_then x y z Same (λ a b c p q n. q n ∙ p n)

-- a count that is kept where rooms are told, over two calls
pub kept_then : {A : Type 0} (x y : Option (List ℕ → Option A)) (a b c : ℕ) → Alike x y Same → IfSome x (λ r. b ≡ a)
    → IfSome y (λ r. c ≡ b) → IfSome x (λ r. c ≡ a)
kept_then None y a b c same p q = tt
kept_then (Some r) None a b c same p q = absurd same
kept_then (Some r) (Some s) a b c same p q = q ∙ p

full : (room : Option ℕ) (file : Option (List ℕ)) (bytes piece : List ℕ) (done : ℕ) → file ≡ Some (take done bytes)
    → done < length bytes
    → HasNoRoom room file piece → LacksRoom room bytes
full None file bytes piece done was left short = tt
full (Some room) file bytes piece done was left short =
    omega (arith, short.1, ap (λ f. length (content f)) was, length-take done bytes)

-- an append that failed within a loop of appends: not all of the bytes fit
pub no_room : (name bytes piece : List ℕ) (done : ℕ) (failed : Type 0) (first files : Option Files) (x y : Option Rooms)
    → Alike first files (λ old new. OthersStay name old new × (new name ≡ Some (take done bytes)))
    → Alike x y Same → (IsSome y → IsSome files)
    → IfSome y (λ r. IfSome files (λ f. failed ↔ HasNoRoom (r name) (f name) piece))
    → done < length bytes → failed → IfSome x (λ r. LacksRoom (r name) bytes)
no_room name bytes piece done failed first files None y alike same told room left err = tt
no_room name bytes piece done failed first files (Some r) None alike same told room left err = absurd same
no_room name bytes piece done failed first None (Some r) (Some s) alike same told room left err =
    absurd (cc (told refl))
no_room name bytes piece done failed None (Some f) (Some r) (Some s) alike same told room left err = absurd alike
no_room name bytes piece done failed (Some e) (Some f) (Some r) (Some s) alike same told room left err =
    subst (λ (o : Option ℕ). LacksRoom o bytes) (same name)
    (full (s name) (f name) bytes piece done alike.1 left (room.0 err))
