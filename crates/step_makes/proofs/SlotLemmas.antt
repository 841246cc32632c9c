-- The job in a slot, and the order of the slots.
use Rattle.std.proofs.Common.{◌≡◌, ◌≢◌, ℕ, Bool, true, false, List, [], ◌∷◌, Some, find, map, refl, sym, ap, arith}
use Rattle.std.specs.Prelude.{◌==◌, ◌&&◌, if◌then◌else◌}
use Rattle.std.specs.Option.{option_map}
use Rattle.std.proofs.lemmas.Bool.Decides.{nat_tests}
use Rattle.annex_base.proofs.Conditions.{eqb_other}
use Rattle.annex_base.proofs.Lists.{Each-member, find_member}
use Rattle.node_model.specs.Jobs as jobs
use Rattle.state_jobs.specs.Works.{work_of}
use Rattle.state_jobs.specs.declared.work.Work.{Work}
use Rattle.state_reads.specs.Reads.{IsOnly}
use Rattle.step_makes.specs.Numbers.{AreAlone}

-- what is found among the data is found among the works
pub slot_seen : (slot : ℕ) (ws : List Work) → option_map work_of (find (λ (w : Work). w.slot == slot) ws) ≡ find (λ (w : jobs.Work). w.slot == slot) (map work_of ws)
slot_seen slot [] = refl
slot_seen slot (w ∷ ws) = go (w.slot == slot) (slot_seen slot ws)
  where
    go : (b : Bool) → option_map work_of (find (λ (v : Work). v.slot == slot) ws) ≡ find (λ (v : jobs.Work). v.slot == slot) (map work_of ws)
        → option_map work_of (if b then Some w else find (λ (v : Work). v.slot == slot) ws) ≡ (if b then Some (work_of w) else find (λ (v : jobs.Work). v.slot == slot) (map work_of ws))
    go true more = refl
    go false more = more

-- a job that is found is the only one of its number
pub found_only : (ws : List jobs.Work) (p : jobs.Work → Bool) (w : jobs.Work) → AreAlone ws → find p ws ≡ Some w → IsOnly ws w
found_only ws p w alone found = Each-member (IsOnly ws) ws w alone (find_member p ws w found).0

-- it is in this slot, or in another
pub in_slot : (X : Type 0) (n slot : ℕ) (x y : X) → slot ≡ n → (if n == slot then x else y) ≡ x
in_slot X n slot x y is = ap (λ (b : Bool). if b then x else y) (same n slot (sym is))
  where
    same : (n slot : ℕ) → n ≡ slot → (n == slot) ≡ true
    same n slot is = grind arith

pub in_other_slot : (X : Type 0) (n slot : ℕ) (x y : X) → slot ≢ n → (if n == slot then x else y) ≡ y
in_other_slot X n slot x y other = ap (λ (b : Bool). if b then x else y) (eqb_other n slot other)

pub never_both : (b : Bool) → (b && false) ≡ false
never_both true = refl
never_both false = refl

-- a job that is found has the number
pub number_found : (ws : List jobs.Work) (job : ℕ) (w : jobs.Work) → find (λ (v : jobs.Work). v.number == job) ws ≡ Some w → w.number ≡ job
number_found ws job w found =
    let is : (w.number == job) ≡ true = (find_member (λ (v : jobs.Work). v.number == job) ws w found).1 in
    grind (arith, nat_tests)
