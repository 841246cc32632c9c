-- The states of repositories in runs are sound.
use Rattle.std.proofs.Common.{◌≡◌, ℕ, true, false, List, Option, Some, None, refl, sym, ap, subst, ◌∙◌}
use Rattle.std.specs.Prelude.{◌&&◌, ◌==◌, bytes_eq, find, not}
use Rattle.std.specs.List.{list_any}
use Rattle.std.proofs.lemmas.Bool.{and_from, eqb-true, true≢false}
use Rattle.annex_base.specs.Lists.{Member}
use Rattle.annex_base.proofs.Conditions.{bytes_eq-refl, eqb_refl}
use Rattle.annex_base.proofs.Lists.{Each-member, find_member, find_nowhere, list_any_member}
use Rattle.run_data.specs.declared.entry.By.{By}
use Rattle.run_data.specs.declared.entry.By.TheVariants.{Peer}
use Rattle.run_data.specs.declared.entry.Entry.{Entry}
use Rattle.node_model.specs.Jobs.{Phase, Work}
use Rattle.node_model.specs.Rows.{same_owner}
use Rattle.node_model.specs.SetUp.{SetUp}
use Rattle.run_model.specs.Past.{holds}
use Rattle.run_model.specs.Run.{OwnRun}
use Rattle.run_model.specs.States.{state_of, works}
use Rattle.job_facts.proofs.Bars.{bars_stand}
use Rattle.job_facts.proofs.TalkFacts.{under_way}
use Rattle.step_facts.proofs.WorkNumbers.{same_number_same_work, same_slot_same_work}
use Rattle.run_laws.specs.Sound.{IsSeated, IsSound, is_open_for, is_open_hold}
use Rattle.run_laws.proofs.GuardsOpen.{OpenHold, guards_are_open}

seen_open : (s : SetUp) (past : List Entry) (p q hold : ℕ) (key : List ℕ) → OpenHold (holds past s.number) p q hold key
    → list_any (λ h. is_open_hold hold key h && is_open_for (Peer p q) h) (holds past s.number) ≡ true
seen_open s past p q hold key o =
    let not_kept : not o.h.kept ≡ true = rw o.is_open refl in
    let number : (o.h.number == hold) ≡ true = subst (λ (n : ℕ). (n == hold) ≡ true) (sym o.number_is) (eqb_refl hold) in
    let same : bytes_eq o.h.key key ≡ true = subst (λ (k : List ℕ). bytes_eq k key ≡ true) (sym o.key_is) (bytes_eq-refl key) in
    let owner : same_owner o.h.owner (Peer p q) ≡ true = subst (λ (b : By). same_owner b (Peer p q) ≡ true) (sym o.owner_is) (rw (eqb_refl p, eqb_refl q) refl) in
    list_any_member (λ h. is_open_hold hold key h && is_open_for (Peer p q) h) (holds past s.number) o.h o.among
    (and_from (is_open_hold hold key o.h) (is_open_for (Peer p q) o.h)
    (and_from ((o.h.number == hold) && bytes_eq o.h.key key) (not o.h.kept) (and_from (o.h.number == hold) (bytes_eq o.h.key key) number same) not_kept)
    (and_from (same_owner o.h.owner (Peer p q)) (not o.h.kept) owner not_kept))

pub own_sound : (s : SetUp) (past : List Entry) → OwnRun s past → IsSound (state_of s past)
own_sound s past run = record {
  slots = λ v w m n same. ap (λ (x : Work). x.slot) (same_number_same_work s past run v w m n same);
  guards = λ peer slot hold key g. seen_open s past peer slot hold key ((guards_are_open s past run).opens peer slot hold key g);
  bars = λ w m part side next. bars_stand s past run w m part side (subst (λ (p : Phase). under_way p ≡ true) (sym next) refl);
}

-- a running job is the one in its slot
pub own_seated : (s : SetUp) (past : List Entry) → OwnRun s past → IsSeated (state_of s past)
own_seated s past run = record { slots = (own_sound s past run).slots; seats = λ w among. go w among (find (λ v. v.slot == w.slot) (works past s.number)) refl }
  where
    go : (w : Work) → Member w (works past s.number) → (o : Option Work) → find (λ v. v.slot == w.slot) (works past s.number) ≡ o → find (λ v. v.slot == w.slot) (works past s.number) ≡ Some w
    go w among None is =
        let no' : (w.slot == w.slot) ≡ false = Each-member (λ (v : Work). (v.slot == w.slot) ≡ false) (works past s.number) w (find_nowhere (λ v. v.slot == w.slot) (works past s.number) is) among in
        absurd (true≢false (sym (eqb_refl w.slot) ∙ no'))
    go w among (Some v) is =
        let h = find_member (λ (x : Work). x.slot == w.slot) (works past s.number) v is in
        is ∙ ap (λ (x : Work). Some x) (same_slot_same_work s past run v w h.0 among (eqb-true v.slot w.slot h.1))
