-- Only a crash sets a clock; and where a job runs on, or begins, there is none.
use Rattle.std.proofs.Common.{◌≡◌, ◌≢◌, ℕ, Bool, true, false, List, ◌∷◌, inl, inr, refl, sym, ap, ◌∙◌, subst}
use Rattle.std.specs.Prelude.{if◌then◌else◌}
use Rattle.run_data.specs.declared.entry.Entry.{Entry}
use Rattle.run_data.specs.declared.entry.EntryKind.{EntryKind}
use Rattle.run_data.specs.declared.entry.EntryKind.TheVariants.{Begin, Crash}
use Rattle.run_data.specs.declared.run.RepoView.{RepoView}
use Rattle.node_model.specs.Clocks.{ClockSet}
use Rattle.run_model.specs.Past.{clock_set, is_of, set_after}
use Rattle.node_model.specs.SetUp.{SetUp}
use Rattle.node_model.specs.Jobs.{Work}
use Rattle.node_model.specs.Found.{IsJobEntry}
use Rattle.step_facts.proofs.JobSteps.{Origin, Stepped, stepped_found, turn_at}

abbrev pub NoCrash : Entry → Type 0
NoCrash e = (clock : ℕ) → e.kind ≢ Crash clock

set_kept : (time : ℕ) (was : ClockSet) (kind : EntryKind) → ((clock : ℕ) → kind ≢ Crash clock) → set_after time was kind ≡ was
set_kept time was (Crash clock) none = absurd (none clock refl)
set_kept time was kind none = refl

-- an entry that is no crash leaves each clock as it was set
pub clock_kept : (repos : List RepoView) (past : List Entry) (r : ℕ) (e : Entry) → NoCrash e → clock_set repos (e ∷ past) r ≡ clock_set repos past r
clock_kept repos past r e none = go (is_of r e)
  where
    go : (b : Bool) → (if b then set_after e.time (clock_set repos past r) e.kind else clock_set repos past r) ≡ clock_set repos past r
    go true = set_kept e.time (clock_set repos past r) e.kind none
    go false = refl

-- and so does an entry of another repository
pub clock_other : (repos : List RepoView) (past : List Entry) (r : ℕ) (e : Entry) → is_of r e ≡ false → clock_set repos (e ∷ past) r ≡ clock_set repos past r
clock_other repos past r e is = rw is refl

pub stepped_stands : (s : SetUp) (past : List Entry) (e : Entry) → Stepped s past e → NoCrash e
stepped_stands s past e x clock kind = subst (IsJobEntry (turn_at s past e x) x.made) (sym (ap (λ (y : Entry). y.kind) x.is) ∙ kind) (stepped_found s past e x).found

-- where a job runs after an entry, the entry is no crash
pub origin_stands : (s : SetUp) (past : List Entry) (e : Entry) (w : Work) → Origin s past e w → NoCrash e
origin_stands s past e w (inl b) clock kind = let both : Begin b.job b.what ≡ Crash clock = sym b.kind_is ∙ kind in cc
origin_stands s past e w (inr (inl b)) clock kind = b.no_crash clock kind
origin_stands s past e w (inr (inr b)) clock kind = stepped_stands s past e b.by clock kind
