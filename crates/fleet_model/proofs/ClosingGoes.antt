-- Where the driver closes ends of a repository, this alone goes on, by entries that no job makes.
use Rattle.std.proofs.Common.{◌≡◌, ℕ, ◌+◌, Bool, true, false, List, [], ◌∷◌, ◌++◌, Option, None, refl, sym, ap, ◌∙◌, subst, le_refl, le_trans, le-add_right}
use Rattle.std.specs.Prelude.{if◌then◌else◌}
use Rattle.std.proofs.lemmas.List.{append_assoc}
use Rattle.annex_base.specs.Lists.{Each}
use Rattle.annex_base.specs.declared.kinds.Word.{Word}
use Rattle.annex_base.proofs.Lists.{Each-append, Each-weaker}
use Rattle.annex_base.proofs.Conditions.{eqb_refl}
use Rattle.run_data.specs.declared.entry.Entry.{Entry}
use Rattle.run_data.specs.declared.entry.EntryKind.TheVariants as kinds
use Rattle.run_data.specs.declared.entry.FrameView.{FrameView}
use Rattle.node_model.specs.AnyTime.{close_at}
use Rattle.node_model.specs.Ends.{EndName}
use Rattle.node_model.specs.Slots.{job_of}
use Rattle.run_model.specs.Past.{is_of, now}
use Rattle.run_model.specs.States.{end_at}
use Rattle.driver_model.specs.Driver.{Driver, DriverInput, entry, newest_count, set_up_of, state_at}
use Rattle.driver_model.specs.ScriptSteps.{closes_each, closes_end, sends}
use Rattle.link_flights.specs.Heard.{HeardSo}
use Rattle.fleet_model.proofs.Going.{GoesOn, IsWithin}
use Rattle.fleet_model.proofs.Hearing.{WordLaws}

-- r alone goes on so, and no job of it makes an entry
pub record ClosesOn (r : ℕ) (d d' : Driver) : Type 0 where
  pub on : GoesOn r d d'
  pub jobless : Each (λ e. job_of e.kind ≡ None) on.more

on_nowhere : (r : ℕ) (d : Driver) → ClosesOn r d d
on_nowhere r d = record {
  on = record {
    more = [];
    past = refl;
    own = tt;
    tree = refl;
    marks = refl;
    stores = λ q v apart is. is;
    at = refl;
    counted = le_refl (newest_count d.past);
    bounds = tt;
    large = λ e. e;
  };
  jobless = tt;
}

on_then : (r : ℕ) (a b c : Driver) → ClosesOn r a b → ClosesOn r b c → ClosesOn r a c
on_then r a b c x y = record {
  on = record {
    more = y.on.more ++ x.on.more;
    past = y.on.past ∙ (ap (λ (p : List Entry). y.on.more ++ p) x.on.past ∙ sym (append_assoc y.on.more x.on.more a.past));
    own = Each-append (λ e. is_of r e ≡ true) y.on.more x.on.more y.on.own x.on.own;
    tree = y.on.tree ∙ x.on.tree;
    marks = y.on.marks ∙ x.on.marks;
    stores = λ q v apart is. y.on.stores q v apart (x.on.stores q v apart is);
    at = y.on.at ∙ x.on.at;
    counted = le_trans x.on.counted y.on.counted;
    bounds = Each-append (IsWithin (now a.past) (newest_count c.past)) y.on.more x.on.more
        (subst (λ (t : ℕ). Each (IsWithin t (newest_count c.past)) y.on.more) x.on.at y.on.bounds)
        (Each-weaker (IsWithin (now a.past) (newest_count b.past)) (IsWithin (now a.past) (newest_count c.past))
        (λ e w. record { time_is = w.time_is; counted = le_trans w.counted y.on.counted; small = w.small }) x.on.more x.on.bounds);
    large = λ e. y.on.large (x.on.large e);
  };
  jobless = Each-append (λ e. job_of e.kind ≡ None) y.on.more x.on.more y.jobless x.jobless;
}

on_sending : (g : DriverInput) (r : ℕ) (a : EndName) (sent : List FrameView) (d : Driver) → ClosesOn r d (sends g r (kinds.Close a.peer a.slot a.client) sent d)
on_sending g r a sent d = record {
  on = record {
    more = record (entry d r (kinds.Close a.peer a.slot a.client) []) { sent = sent } ∷ [];
    past = refl;
    own = (eqb_refl r, tt);
    tree = refl;
    marks = refl;
    stores = λ q v apart is. record { contents = is.contents; parts = is.parts; failing = is.failing };
    at = refl;
    counted = le-add_right (newest_count d.past) 1;
    bounds = (record { time_is = refl; counted = le_refl (newest_count d.past + 1); small = tt }, tt);
    large = λ e. e;
  };
  jobless = (refl, tt);
}

on_if : (r : ℕ) (b : Bool) (d x y : Driver) → ClosesOn r d x → ClosesOn r d y → ClosesOn r d (if b then x else y)
on_if r true d x y there other = there
on_if r false d x y there other = other

closes_end_on : (g : DriverInput) (r : ℕ) (a : EndName) (d : Driver) → ClosesOn r d (closes_end g r a d)
closes_end_on g r a d =
    on_if r (end_at d.past r a).opened d (sends g r (kinds.Close a.peer a.slot a.client) (close_at (set_up_of g d r) (state_at g d r) a) d) d
    (on_sending g r a (close_at (set_up_of g d r) (state_at g d r) a) d) (on_nowhere r d)

pub closes_on : (g : DriverInput) (r : ℕ) (ends : List EndName) (d : Driver) → ClosesOn r d (closes_each g r ends d)
closes_on g r [] d = on_nowhere r d
closes_on g r (a ∷ ends) d = on_then r d (closes_end g r a d) (closes_each g r ends (closes_end g r a d)) (closes_end_on g r a d) (closes_on g r ends (closes_end g r a d))

-- the words that its jobs heard stay
pub heard_jobless : WordLaws → (r : ℕ) (words : ℕ → ℕ → Option Word) (more past : List Entry) → Each (λ e. is_of r e ≡ true) more → Each (λ e. job_of e.kind ≡ None) more → HeardSo past r words → HeardSo (more ++ past) r words
heard_jobless laws r words [] past own none heard = heard
heard_jobless laws r words (e ∷ more) past own none heard =
    laws.beside (more ++ past) e r words words own.0 none.0 (λ w c among. refl) (heard_jobless laws r words more past own.1 none.1 heard)
