-- What a repository's state is after a crash.
use Rattle.std.proofs.Common.{◌≡◌, inl, inr, ℕ, ◌+◌, true, List, [], ◌∷◌, ap, subst, arith}
use Rattle.std.specs.Prelude.{map}
use Rattle.annex_base.specs.Lists.{Member}
use Rattle.run_data.specs.declared.entry.Entry.{Entry}
use Rattle.run_data.specs.declared.entry.EntryKind.{EntryKind}
use Rattle.run_data.specs.declared.entry.EntryKind.TheVariants.{Crash}
use Rattle.run_data.specs.declared.row.Hold.{Hold}
use Rattle.node_model.specs.After.{state_after}
use Rattle.node_model.specs.Clocks.{hold_time}
use Rattle.node_model.specs.Rows.{holds_after, restart}
use Rattle.node_model.specs.SetUp.{SetUp}
use Rattle.node_model.specs.State.{State}

pub clock_set : (s : SetUp) (st : State) (e : Entry) (clock : ℕ) → e.kind ≡ Crash clock → (state_after s st e).clock e.time ≡ clock
clock_set s st e clock is = rw is (omega arith)

restarted : (clock : ℕ) (hs : List Hold) (h : Hold) → Member h (map (restart clock) hs) → (h.kept ≡ true) × (h.end ≡ clock + hold_time)
restarted clock [] h m = absurd m
restarted clock (x ∷ hs) h (inl is) = (ap (λ (y : Hold). y.kept) is, ap (λ (y : Hold). y.end) is)
restarted clock (x ∷ hs) h (inr m) = restarted clock hs h m

pub holds_kept : (s : SetUp) (st : State) (e : Entry) (clock : ℕ) (h : Hold) → e.kind ≡ Crash clock → Member h (state_after s st e).holds → (h.kept ≡ true) × (h.end ≡ clock + hold_time)
holds_kept s st e clock h is m = restarted clock st.holds h (subst (λ (kind : EntryKind). Member h (holds_after st.holds kind)) is m)
