-- The laws at the places of a run.
use Rattle.std.proofs.Common.{◌≡◌, ℕ, ◌+◌, ◌≤◌, Bool, true, false, not, ◌||◌, List, ◌∷◌, Option, Some, None, refl, sym, subst, arith}
use Rattle.std.specs.Prelude.{slice_get}
use Rattle.std.proofs.lemmas.Bool.Decides.{nat_tests}
use Rattle.drop_proof.specs.Judging.{is_enough}
use Rattle.drop_proof.specs.declared.evidence.Evidence.{Evidence}
use Rattle.drop_proof.specs.declared.evidence.Kind.{Kind}
use Rattle.drop_proof.specs.declared.evidence.Kind.TheVariants.{Locked, Trusted, Recent}
use Rattle.run_data.specs.declared.entry.By.{By}
use Rattle.run_data.specs.declared.entry.Entry.{Entry}
use Rattle.run_data.specs.declared.entry.EntryKind.TheVariants.{Gone}
use Rattle.run_data.specs.declared.run.Run.{Run}
use Rattle.run_data.specs.declared.run.RepoView.{RepoView}
use Rattle.node_model.specs.Evidence.{is_locked, is_trusted}
use Rattle.annex_base.specs.Lists.{Member}
use Rattle.annex_base.proofs.Lists.{list_all_member}
use Rattle.annex_base.proofs.Conditions.{bytes_eq-refl}
use Rattle.step_facts.proofs.Below.{SentAreRead}
use Rattle.run_model.specs.Past.{present}
use Rattle.run_model.specs.Safety.{Removal, all_stand, is_backed, claim, is_gone, has_enough, least_need, is_rightful, past_at, stands, within}
use Rattle.run_model.specs.Run.{IsRun}
use Rattle.race_core.specs.Places.{claim_at, count_at, removal_at, removals_at}
use Rattle.run_laws.proofs.FromStep.{runs_are_safe}
use Rattle.past_facts.proofs.EntryPlaces.{past_next}

within_le : (o : Option ℕ) (c least : ℕ) → within o c ≡ true → o ≡ Some least → least ≤ c
within_le None c least h e = cc
within_le (Some m) c least h e = let same : m ≡ least = cc in let test : within (Some least) c ≡ true = subst (λ x. within (Some x) c ≡ true) same h in grind (arith, nat_tests)

pub enough_within : SentAreRead → (run : Run) (key : List ℕ) (place : ℕ) → IsRun run → within (least_need (removals_at run key place)) (count_at run key place) ≡ true
enough_within reads_back run key place h = (runs_are_safe reads_back run h).enough key place

pub enough_least : SentAreRead → (run : Run) (key : List ℕ) (place least : ℕ) → IsRun run → least_need (removals_at run key place) ≡ Some least → least ≤ count_at run key place
enough_least reads_back run key place least h e = within_le (least_need (removals_at run key place)) (count_at run key place) least (enough_within reads_back run key place h) e

stands_locked : (repos : List RepoView) (past : List Entry) (key : List ℕ) (i : Evidence) → is_locked i.kind ≡ true → stands repos past key i ≡ true → present past i.repo key ≡ true
stands_locked repos past key i = go i.kind refl
  where
    go : (kind : Kind) → i.kind ≡ kind → is_locked i.kind ≡ true → stands repos past key i ≡ true → present past i.repo key ≡ true
    go (Locked end) e l s = rw e at s
    go Trusted e l s = let k : is_locked Trusted ≡ true = rw e at l in cc
    go Recent e l s = let k : is_locked Recent ≡ true = rw e at l in cc

stands_trusted : (repos : List RepoView) (past : List Entry) (key : List ℕ) (i : Evidence) → is_trusted i.kind ≡ true → stands repos past key i ≡ true → claim repos past i.repo key ≡ true
stands_trusted repos past key i = go i.kind refl
  where
    go : (kind : Kind) → i.kind ≡ kind → is_trusted i.kind ≡ true → stands repos past key i ≡ true → claim repos past i.repo key ≡ true
    go (Locked end) e l s = let k : is_trusted (Locked end) ≡ true = rw e at l in cc
    go Trusted e l s = rw e at s
    go Recent e l s = let k : is_trusted Recent ≡ true = rw e at l in cc

-- what an item of the removal at a place stands for is there after it
item_stands : SentAreRead → (run : Run) (key : List ℕ) (place : ℕ) (e : Entry) (x : Removal) (item : Evidence) → IsRun run → slice_get run.entries place ≡ Some e → removal_at run key place e ≡ Some x
    → Member item x.items → stands run.repos (past_at run (place + 1)) key item ≡ true
item_stands reads_back run key place e x item h at is m =
    subst (λ past. stands run.repos past key item ≡ true) (sym (past_next run place e at))
    (list_all_member (stands run.repos (e ∷ past_at run place) key) x.items item stand m)
  where
    left : is_backed run.repos (e ∷ past_at run place) key ≡ true
    left = subst (λ past. is_backed run.repos past key ≡ true) (past_next run place e at) ((runs_are_safe reads_back run h).kept key (place + 1))

    stand : all_stand run.repos (e ∷ past_at run place) key (Some x) ≡ true
    stand = subst (λ o. all_stand run.repos (e ∷ past_at run place) key o ≡ true) is left

pub locked_left : SentAreRead → (run : Run) (key : List ℕ) (place : ℕ) (e : Entry) (x : Removal) (item : Evidence) → IsRun run → slice_get run.entries place ≡ Some e → removal_at run key place e ≡ Some x
    → Member item x.items → is_locked item.kind ≡ true → present (past_at run (place + 1)) item.repo key ≡ true
locked_left reads_back run key place e x item h at is m l = stands_locked run.repos (past_at run (place + 1)) key item l (item_stands reads_back run key place e x item h at is m)

pub trusted_left : SentAreRead → (run : Run) (key : List ℕ) (place : ℕ) (e : Entry) (x : Removal) (item : Evidence) → IsRun run → slice_get run.entries place ≡ Some e → removal_at run key place e ≡ Some x
    → Member item x.items → is_trusted item.kind ≡ true → claim_at run key (place + 1) item.repo ≡ true
trusted_left reads_back run key place e x item h at is m l = stands_trusted run.repos (past_at run (place + 1)) key item l (item_stands reads_back run key place e x item h at is m)

judged_some : (o : Option Removal) → has_enough o ≡ true → (x : Removal) × (o ≡ Some x) × (is_enough x.side x.need x.items ≡ true)
judged_some None h = cc
judged_some (Some x) h = (x, refl, h)

pub one_drop : SentAreRead → (run : Run) (key : List ℕ) (place : ℕ) (e : Entry) (by : By) → IsRun run → slice_get run.entries place ≡ Some e → e.kind ≡ Gone by key
    → (x : Removal) × (removal_at run key place e ≡ Some x) × (is_enough x.side x.need x.items ≡ true)
one_drop reads_back run key place e by h at kind = judged_some (removal_at run key place e) own
  where
    own : has_enough (removal_at run key place e) ≡ true
    own = let k : is_rightful run.repos (e ∷ past_at run place) key ≡ true
        = subst (λ past. is_rightful run.repos past key ≡ true) (past_next run place e at) ((runs_are_safe reads_back run h).drops key (place + 1)) in
        go (is_gone key e.kind) gone k
      where
        gone : is_gone key e.kind ≡ true
        gone = rw kind (bytes_eq-refl key)

        go : (b : Bool) → b ≡ true → (not b || has_enough (removal_at run key place e)) ≡ true → has_enough (removal_at run key place e) ≡ true
        go true e' k = k
        go false e' k = cc
