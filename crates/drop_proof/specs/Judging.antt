-- The rule of a drop: how much evidence is enough, and until when it holds (git-annex-numcopies, git-annex-mincopies).
use Rattle.std.specs.Prelude.{ℕ, Bool, true, false, ◌&&◌, ◌≤◌, List, All, Contains, Option, Some, None, length, count_by, filter_map, max, min, nat_le, if◌then◌else◌}
use Rattle.std.specs.List.{reduce}
use Rattle.drop_proof.specs.declared.evidence.Kind.{Kind}
use Rattle.drop_proof.specs.declared.evidence.Kind.TheVariants.{Locked, Trusted, Recent}
use Rattle.drop_proof.specs.declared.evidence.Evidence.{Evidence}
use Rattle.drop_proof.specs.declared.rule.Need.{Need}
use Rattle.drop_proof.specs.declared.rule.Side.{Side}
use Rattle.drop_proof.specs.declared.rule.Side.TheVariants.{Local, Remote}
use Rattle.drop_proof.specs.declared.rule.Judged.{Judged}
use Rattle.drop_proof.specs.declared.rule.Judged.TheVariants.{Enough, Lacking}

-- whether a copy of this kind is a full one: locked or trusted
abbrev pub is_full_kind : Kind → Bool
is_full_kind (Locked end) = true
is_full_kind Trusted = true
is_full_kind Recent = false

-- the same of an item
abbrev pub is_full : Evidence → Bool
is_full i = is_full_kind i.kind

-- whether an item counts towards the mincopies of a drop: each of a local one, the full ones of a remote one (own)
abbrev pub counts : Side → Evidence → Bool
counts Local i = true
counts Remote i = is_full i

-- whether these items are enough for the drop
abbrev pub is_enough : Side → Need → List Evidence → Bool
is_enough side need items =
    nat_le (max need.n need.m) (length items) && nat_le need.m (count_by (counts side) items)

-- how many of the items have to be locked or trusted, by the side of the drop (own)
abbrev pub full_needed : Side → Need → ℕ
full_needed Local need = 0
full_needed Remote need = need.m

-- the rule: at least max(numcopies, mincopies) items, and at least full_needed of them locked or trusted
abbrev pub MeetsRule : Side → Need → List Evidence → Type 0
MeetsRule side need items =
    (max need.n need.m ≤ length items) × (full_needed side need ≤ count_by is_full items)

-- the end of a hold
abbrev pub end_of_kind : Kind → Option ℕ
end_of_kind (Locked end) = Some end
end_of_kind Trusted = None
end_of_kind Recent = None

-- the ends of the holds among the items
abbrev pub ends : List Evidence → List ℕ
ends items = filter_map (λ i. end_of_kind i.kind) items

-- the least end of the holds among the items
abbrev pub least_end : List Evidence → Option ℕ
least_end items = reduce min (ends items)

-- one hold of the items ends then, and none ends earlier
abbrev pub IsFirstEnd : List Evidence → ℕ → Type 0
IsFirstEnd items end = Contains (ends items) end × All (λ later. end ≤ later) (ends items)

-- what the items come to
abbrev pub judgement : Side → Need → List Evidence → Judged
judgement side need items =
    if is_enough side need items
    then Enough (least_end items)
    else Lacking (length items) (max need.n need.m) (count_by is_full items) (full_needed side need)
