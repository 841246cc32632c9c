-- A repository's own part is one of its own entries: over two pasts with the same entries of the repository it is the same.
use Rattle.std.proofs.Common.{◌≡◌, ℕ, ◌+◌, List, Option, Some, ◌⊎◌, inl, inr, refl, sym, ap, subst}
use Rattle.std.specs.Prelude.{if◌then◌else◌}
use Rattle.annex_base.specs.declared.kinds.Word.{Word}
use Rattle.run_data.specs.declared.entry.Entry.{Entry}
use Rattle.node_model.specs.Slots.{is_begin}
use Rattle.node_model.specs.SetUp.{SetUp}
use Rattle.node_model.specs.Step.{step}
use Rattle.node_model.specs.AnyTime.{MayCome}
use Rattle.run_model.specs.Past.{begun_count}
use Rattle.run_model.specs.States.{state_of}
use Rattle.run_model.specs.Run.{ComesAnyTime, IsStep, OwnPart}
use Rattle.past_facts.proofs.OwnPasts.{mine, own_by}
use Rattle.past_facts.proofs.OwnState.{state_own}

pub begun_own : (r : ℕ) (past : List Entry) → begun_count past r ≡ begun_count (mine r past) r
begun_own r past = own_by r (λ p. begun_count p r) (λ e p is. rw is refl) (λ e p is ih. rw is (ap (λ n. if is_begin e.kind then n + 1 else n) ih)) past

-- two pasts that leave a repository in one state: a step, and what may come at any point, are facts of the state
part_same : (s : SetUp) (p q : List Entry) → state_of s p ≡ state_of s q → (words : ℕ → Option Word) (e : Entry) → OwnPart s p words e → OwnPart s q words e
part_same s p q same words e part = record { known = part.known; does = does part.does }
  where
    does : IsStep s p words e ⊎ ComesAnyTime s p e → IsStep s q words e ⊎ ComesAnyTime s q e
    does (inl x) = inl (record { look = x.look; made = x.made; makes = subst (λ st. step s st x.look ≡ Some x.made) same x.makes; is = x.is; words_are = x.words_are; part_small = x.part_small })
    does (inr x) = inr (record { may = subst (λ st. MayCome s st e.lines e.sent e.kind) same x.may; takes_none = x.takes_none })

-- what is its own part after its own entries is so after all, and the other way round
pub part_whole : (s : SetUp) (past : List Entry) (words : ℕ → Option Word) (e : Entry) → OwnPart s (mine s.number past) words e → OwnPart s past words e
part_whole s past words e part = part_same s (mine s.number past) past (sym (state_own s past)) words e part

pub part_alone : (s : SetUp) (past : List Entry) (words : ℕ → Option Word) (e : Entry) → OwnPart s past words e → OwnPart s (mine s.number past) words e
part_alone s past words e part = part_same s past (mine s.number past) (state_own s past) words e part
