-- The steps of a run as those of its repositories: the part of each entry, and the own past of each repository.
use Rattle.std.proofs.Common.{◌≡◌, ℕ, ◌≤◌, true, List, [], ◌∷◌, Option, Some, None, subst, arith, inl, inr, sym}
use Rattle.annex_base.specs.Lists.{Each}
use Rattle.annex_base.specs.declared.kinds.Word.{Word}
use Rattle.run_data.specs.declared.entry.Entry.{Entry}
use Rattle.run_data.specs.declared.entry.EntryKind.{EntryKind}
use Rattle.run_data.specs.declared.entry.EntryKind.TheVariants.{Wait}
use Rattle.run_data.specs.declared.run.Run.{Run}
use Rattle.run_data.specs.Repos.{IsSetUp}
use Rattle.run_model.specs.Past.{Always, is_of, Occurs}
use Rattle.node_model.specs.SetUp.{SetUp}
use Rattle.run_model.specs.Run.{FramesPart, IsBounded, MayBe, ComesInOrder, OwnPart, OwnPast, OwnRun, RunPast, RunStep, TimeIs, set_up}
use Rattle.step_facts.proofs.Plain.{option_same}

-- time rises
pub in_order : (before : ℕ) (e : Entry) (kind : EntryKind) (repo : Option ℕ) → TimeIs before e kind repo → before ≤ e.time
in_order before e (Wait ms) None h = omega (arith, h)
in_order before e kind (Some r) h = omega (arith, h)
in_order before e _ None h = elim h [ ]

-- what it does by itself, and the frames' part
pub record Part (s : ℕ → SetUp) (past : List Entry) (r : ℕ) (e : Entry) : Type 0 where
  pub words : ℕ → Option Word
  pub own : OwnPart (s r) past words e
  pub frames : FramesPart past r words e

pub part_of : (s : ℕ → SetUp) (past : List Entry) (e : Entry) (r : ℕ) → RunStep s past e → is_of r e ≡ true → Part s past r e
part_of s past e r x is =
    let may : MayBe s past e (Some r) = subst (λ (o : Option ℕ). MayBe s past e o) (option_same e.repo r is) x.may in
    record { words = may.0; own = may.1; frames = may.2 }

pub bounded : (past : List Entry) (e : Entry) → ComesInOrder past e → IsBounded e
bounded past e o = record { in_time = o.in_time; small = o.small }

module _ (run : Run) (repos : Each IsSetUp run.repos) where
  own_run : (r : ℕ) (past : List Entry) → RunPast (set_up run) past → OwnRun (set_up run r) past
  own_run r [] h = tt
  own_run r (e ∷ past) h = ((λ is. let p = part_of (set_up run) past e r h.0 is in (p.words, p.own)), own_run r past h.1)

  all_bounded : (past : List Entry) → RunPast (set_up run) past → Always (λ p x. IsBounded x) past
  all_bounded [] h = tt
  all_bounded (e ∷ past) h = (bounded past e h.0.order, all_bounded past h.1)

  pub own_past : (r : ℕ) (past : List Entry) → RunPast (set_up run) past → OwnPast (set_up run r) past
  own_past r past h = record { repos = repos; run = own_run r past h; bounds = all_bounded past h }

-- what stands at an entry of a run
pub step_at : (run : Run) (past : List Entry) (x : Entry) (before : List Entry) → RunPast (set_up run) past → Occurs past x before → RunStep (set_up run) before x × RunPast (set_up run) before
step_at run [] x before h o = absurd o
step_at run (e ∷ past) x before h (inl o) = subst (λ (p : List Entry). RunStep (set_up run) p x × RunPast (set_up run) p) (sym o.1) (subst (λ (y : Entry). RunStep (set_up run) past y) (sym o.0) h.0, h.1)
step_at run (e ∷ past) x before h (inr o) = step_at run past x before h.1 o
