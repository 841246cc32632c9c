-- Facts of each entry of a repository, by its own part.
use Rattle.run_model.specs.States.{state_of}
use Rattle.std.proofs.Common.{◌≡◌, ◌<◌, ◌^◌, true, List, [], ◌∷◌, Some, ◌⊎◌, inl, inr, sym, subst}
use Rattle.run_data.specs.declared.entry.Entry.{Entry}
use Rattle.run_data.specs.declared.entry.EntryKind.{EntryKind}
use Rattle.run_model.specs.Past.{Always, is_of}
use Rattle.node_model.specs.SetUp.{SetUp}
use Rattle.node_model.specs.Look.{Look, Effect, entry_of}
use Rattle.node_model.specs.Step.{step}
use Rattle.node_model.specs.AnyTime.{MayCome}
use Rattle.annex_base.specs.declared.kinds.Word.{Word}
use Rattle.std.specs.Prelude.{ℕ, Option}
use Rattle.run_model.specs.Run.{ComesAnyTime, IsBounded, IsStep, OwnPart, OwnPast}

-- a fact of each entry of a repository, by its own part
abbrev pub ByStep : (SetUp → List Entry → Entry → Type 0) → Type 0
ByStep P = (s : SetUp) (past : List Entry) (words : ℕ → Option Word) (e : Entry) → OwnPast s past → IsBounded e → is_of s.number e ≡ true → OwnPart s past words e → P s past e

-- what a step makes has the fact, and what may come at any point has it
pub by_step : (P : SetUp → List Entry → Entry → Type 0)
    → ((s : SetUp) (past : List Entry) (k : Look) (m : Effect) → OwnPast s past → IsBounded (entry_of s.number k m) → k.part < 2 ^ 62 → step s (state_of s past) k ≡ Some m → P s past (entry_of s.number k m))
    → ((s : SetUp) (past : List Entry) (e : Entry) → OwnPast s past → IsBounded e → is_of s.number e ≡ true → ComesAnyTime s past e → P s past e)
    → ByStep P
by_step P made any s past words e h b is part = go part.does
  where
    go : IsStep s past words e ⊎ ComesAnyTime s past e → P s past e
    go (inl x) = subst (λ (y : Entry). P s past y) (sym x.is) (made s past x.look x.made h (subst IsBounded x.is b) x.part_small x.makes)
    go (inr x) = any s past e h b is x

-- what comes at any point is of a kind that may
pub any_kind : (s : SetUp) (past : List Entry) (e : Entry) (kind : EntryKind) → ComesAnyTime s past e → e.kind ≡ kind → MayCome s (state_of s past) e.lines e.sent kind
any_kind s past e kind x is = subst (λ (k : EntryKind). MayCome s (state_of s past) e.lines e.sent k) is x.may

-- what stood before the newest entry
abbrev pub earlier : (s : SetUp) (past : List Entry) (e : Entry) → OwnPast s (e ∷ past) → OwnPast s past
earlier s past e h = record { repos = h.repos; run = h.run.1; bounds = h.bounds.1 }

-- a fact by steps holds of each of the repository's entries so far
pub own_always : (P : SetUp → List Entry → Entry → Type 0) → ByStep P → (s : SetUp) (past : List Entry) → OwnPast s past → Always (λ p x. is_of s.number x ≡ true → P s p x) past
own_always P by s [] past = tt
own_always P by s (e ∷ past) h =
    let before = earlier s past e h in
    ((λ is. let part = h.run.0 is in by s past part.0 e before h.bounds.0 is part.1), own_always P by s past before)
