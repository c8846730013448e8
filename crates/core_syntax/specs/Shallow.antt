-- Depths on the stack.
use Rattle.std.specs.Prelude.{List, [], ◌∷◌, ◌≤◌, ⊤}
use Rattle.core_syntax.specs.declared.item.Part as Parts
use Rattle.core_syntax.specs.declared.item.Part.TheVariants as P
use Rattle.core_syntax.specs.declared.item.Item.{Item}
use Rattle.core_syntax.specs.declared.item.Item.TheVariants as I
use Rattle.core_syntax.specs.declared.item.Entry.{Entry}

-- none is more than one deeper than a text may nest
abbrev pub AreShallow : List Entry → Type 0
AreShallow [] = ⊤
AreShallow (e ∷ es) = (e.depth ≤ 2001) × AreShallow es

-- parts of a segment that is a constant
abbrev pub IsConstantPart : Parts.Part → Type 0
IsConstantPart P.Value = ⊤
IsConstantPart P.Size = ⊤
IsConstantPart (P.Unit n) = ⊤
IsConstantPart P.Kind = ⊤
IsConstantPart P.Flags = ⊤
IsConstantPart P.Flag = ⊤
IsConstantPart P.FlagItems = ⊤
IsConstantPart _ = ⊥

-- what stands round a part
abbrev pub IsAround : Item → Type 0
IsAround I.Noted = ⊤
IsAround I.NotedKey = ⊤
IsAround I.NotedHead = ⊤
IsAround (I.Close now) = ⊤
IsAround I.HeadEnd = ⊤
IsAround I.ClauseEnd = ⊤
IsAround I.DefinitionRest = ⊤
IsAround _ = ⊥

-- what stands in a tree
abbrev pub IsInside : Item → Type 0
IsInside I.Alias = ⊤
IsInside I.NameRest = ⊤
IsInside I.FunRest = ⊤
IsInside (I.ListRest s) = ⊤
IsInside (I.ListEnd s) = ⊤
IsInside (I.PairArrow s) = ⊤
IsInside (I.MapEnd s) = ⊤
IsInside I.CloseGroup = ⊤
IsInside I.CatchArrow = ⊤
IsInside I.UnitNext = ⊤
IsInside I.FlagsRest = ⊤
IsInside I.FlagsEnd = ⊤
IsInside _ = ⊥
