-- A part is short after an answer, as it was.
use Rattle.std.proofs.Common.{◌≡◌, ◌<◌, ◌^◌, ℕ, Bool, true, false, List, [], length, Option, Some, None, Result, Ok, Err, refl, sym, subst, arith}
use Rattle.std.specs.Prelude.{bytes_eq, if◌then◌else◌}
use Rattle.std.specs.Option.{option_map}
use Rattle.run_data.specs.declared.entry.EntryKind.{EntryKind}
use Rattle.run_data.specs.declared.entry.EntryKind.TheVariants.{Fault}
use Rattle.p2p_wire.specs.declared.message.Message.{Message}
use Rattle.p2p_wire.specs.declared.message.Message.TheVariants.{Valid}
use Rattle.object_store.specs.Stores.{AreSmallParts, Parts, with_at}
use Rattle.session_state.specs.declared.doing.Doing.{Doing}
use Rattle.session_state.specs.declared.doing.Doing.TheVariants as doings
use Rattle.session_state.specs.declared.incoming.Incoming.TheVariants as incoming
use Rattle.session_state.specs.declared.place.Scene.{Scene}
use Rattle.session_state.specs.declared.state.SessionState.{SessionState}
use Rattle.session_state.specs.declared.step.Step.{Step}
use Rattle.session_state.specs.Stepping.{Goes, Moment}
use Rattle.session_state.specs.Talking.{parts_after, parts_after_valid}

short_at : (p : Parts) (key place : List ℕ) (b : Bool) → length (p place) < 2 ^ 62 → length (if b then [] else p place) < 2 ^ 62
short_at p key place true short = omega arith
short_at p key place false short = short

-- without one of them
spent : (known : Option Parts) (key : List ℕ) → AreSmallParts known → AreSmallParts (option_map (λ p. with_at p key []) known)
spent None key small = λ p is place. absurd cc
spent (Some q) key small = λ p is place.
    let same : with_at q key [] ≡ p = cc in subst (λ (r : Parts). length (r place) < 2 ^ 62) same (short_at q key place (bytes_eq key place) (small q refl place))

judged : (key : List ℕ) (kind : EntryKind) (known : Option Parts) → AreSmallParts known → AreSmallParts (parts_after_valid key kind known)
judged key (Fault call by) known small = small
judged key kind known small = spent known key small

answered : (d : Doing) (m : Message) (kind : EntryKind) (known : Option Parts) → AreSmallParts known → AreSmallParts (parts_after d (incoming.Message m) kind known)
answered (doings.Took t) Valid kind known small = judged t.fill kind known small
answered d m kind known small = small

-- after the answer to a message
pub parts_small : {E : Type 0} (x : Scene) (m : Message) (was now : Moment SessionState) (r : Result Step E) → Goes x (incoming.Message m) was now r → AreSmallParts was.parts → AreSmallParts now.parts
parts_small x m was now (Ok step) goes small = subst AreSmallParts (sym goes.parts) (answered was.session.doing m step.kind was.parts small)
parts_small x m was now (Err e) goes small = subst AreSmallParts (sym goes.parts) small
