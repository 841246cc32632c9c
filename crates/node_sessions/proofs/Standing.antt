-- What sessions have of a table and of a store's parts, after one of them served.
use Rattle.std.proofs.Common.{◌≡◌, ℕ, Bool, true, false, List, Option, Some, refl, sym, ap, subst, ◌∙◌, true≢false}
use Rattle.std.specs.Prelude.{◌&&◌, ◌||◌, slice_get}
use Rattle.std.specs.Option.{ForSome}
use Rattle.std.proofs.Math.ListN.{set}
use Rattle.std.proofs.lemmas.Option.{slice_get_within}
use Rattle.std.proofs.lemmas.Bool.{false_from_ne_true, or_right}
use Rattle.std.proofs.lemmas.Map.Keys.{any_passes_from_place}
use Rattle.annex_base.proofs.Conditions.{eqb_refl}
use Rattle.run_data.specs.declared.entry.By.{By}
use Rattle.run_data.specs.declared.entry.By.TheVariants.{Peer}
use Rattle.object_store.specs.Stores.{Parts}
use Rattle.content_lock.specs.Rows.{Rows, is_filling}
use Rattle.content_lock.specs.Tokens.{Owns}
use Rattle.node_model.specs.Rows.{same_owner}
use Rattle.node_model.specs.Sessions as sessions
use Rattle.p2p_server.specs.declared.session.Session.{Session}
use Rattle.p2p_server.specs.Answers.{owner_at}
use Rattle.p2p_server.specs.Stepping.{LeavesOthers}
use Rattle.p2p_server.specs.Talking.{FillsSo, HasFillOf, IsFedOf, place_of, session_of, share_of}
use Rattle.node_sessions.specs.declared.served.Served.{Served}
use Rattle.node_sessions.specs.Moments.{LeavesParts}
use Rattle.node_sessions.specs.Serving.{end_by, server_in}
use Rattle.node_sessions.specs.Sessions.{AreFilled, Differ, EveryTwo, AreAllFed, LeavesPartsOf, OwnAll, end_of, fills_in, owner_of, session_fills}
use Rattle.node_sessions.proofs.Filling.{both_no, fills_told, new_was_free, not_both, stays_filled}
use Rattle.node_sessions.proofs.Listing.{EveryTwo-set, Every-set, any_none, any_set_same, find_one, none_any, set_here}

-- one session's step over a table
pub record StepsAt (was now : Session) (rows rows' : Rows) : Type 0 where
  pub place : place_of now ≡ place_of was
  pub owns : Owns (owner_of now) (share_of now) rows'.holds
  pub fills : HasFillOf rows' now
  pub others : LeavesOthers (owner_of was) rows rows'
  pub filled : FillsSo (session_of was).doing (session_of now).doing (is_filling rows) (is_filling rows')

owner_same : (was now : Session) → place_of now ≡ place_of was → owner_of was ≡ owner_of now
owner_same was now same = ap owner_at (sym same)

differ_from : (was now y : Session) (rows rows' : Rows) → StepsAt was now rows rows' → Differ was y → ((key : List ℕ) → session_fills key y ≡ true → is_filling rows key ≡ true)
    → (key : List ℕ) → session_fills key now ≡ true → session_fills key y ≡ true → ⊥
differ_from was now y rows rows' step apart told key new other =
    new_was_free (session_of was).doing (session_of now).doing (is_filling rows) (is_filling rows') step.filled key new
    (λ old. not_both (session_fills key was) (session_fills key y) (apart.fills key) old other) (told key other)

both_differ : (was now y : Session) (rows rows' : Rows) → StepsAt was now rows rows' → Differ was y → Differ y was → ((key : List ℕ) → session_fills key y ≡ true → is_filling rows key ≡ true)
    → Differ now y × Differ y now
both_differ was now y rows rows' step apart back told =
    let clash : (key : List ℕ) → session_fills key now ≡ true → session_fills key y ≡ true → ⊥ = differ_from was now y rows rows' step apart told in
    let same : owner_of was ≡ owner_of now = owner_same was now step.place in (
      record {
        owners = subst (λ (b : By). same_owner b (owner_of y) ≡ false) same apart.owners;
        fills = λ key. both_no (session_fills key now) (session_fills key y) (clash key);
      },
      record {
        owners = subst (λ (b : By). same_owner (owner_of y) b ≡ false) same back.owners;
        fills = λ key. both_no (session_fills key y) (session_fills key now) (λ p q. clash key q p);
      },
    )

pub own_set : (xs : List Session) (i : ℕ) (was now : Session) (rows rows' : Rows) → slice_get xs i ≡ Some was → OwnAll rows xs → StepsAt was now rows rows' → OwnAll rows' (set xs i now)
own_set xs i was now rows rows' at own step = record {
  shares = Every-set (λ (x : Session). Owns (owner_of x) (share_of x) rows'.holds) xs i now step.owns
      (λ k y ne aty. step.others (owner_of y) (share_of y) (own.apart i k was y (λ e. ne (sym e)) at aty).owners (own.shares k y aty));
  fills = Every-set (λ (x : Session). (key : List ℕ) → session_fills key x ≡ true → is_filling rows' key ≡ true) xs i now (fills_told rows' now.state.doing step.fills)
      (λ k y ne aty key is. stays_filled (session_of was).doing (session_of now).doing (is_filling rows) (is_filling rows') step.filled key
      (λ old. not_both (session_fills key was) (session_fills key y) ((own.apart i k was y (λ e. ne (sym e)) at aty).fills key) old is) (own.fills k y aty key is));
  apart = EveryTwo-set Differ xs i now own.apart
      (λ k y ne aty. both_differ was now y rows rows' step (own.apart i k was y (λ e. ne (sym e)) at aty) (own.apart k i y was ne aty at) (own.fills k y aty));
}

-- ---- the keys that are filled

record FilledAt (f one o : Bool) : Type 0 where
  pub filled : f ≡ (one || o)
  pub apart : (one && o) ≡ false

filled_key : (xs : List Session) (i : ℕ) (was now : Session) (rows rows' : Rows) (key : List ℕ) (o : Bool) → slice_get xs i ≡ Some was → EveryTwo Differ xs
    → FillsSo (session_of was).doing (session_of now).doing (is_filling rows) (is_filling rows') → FilledAt (is_filling rows key) (fills_in xs key) o
    → FilledAt (is_filling rows' key) (fills_in (set xs i now) key) o
filled_key xs i was now rows rows' key o at apart h f = go (session_fills key now) refl (session_fills key was) refl
  where
    here : slice_get (set xs i now) i ≡ Some now
    here = set_here xs i now (slice_get_within xs i was at)

    has : session_fills key was ≡ true → fills_in xs key ≡ true
    has is = any_passes_from_place (session_fills key) xs i was at is

    free : session_fills key now ≡ true → (session_fills key was ≡ true → ⊥) → o ≡ true → ⊥
    free new none is =
        new_was_free (session_of was).doing (session_of now).doing (is_filling rows) (is_filling rows') h key new none (f.filled ∙ rw is (or_right (fills_in xs key) true refl))

    go : (a : Bool) → session_fills key now ≡ a → (b : Bool) → session_fills key was ≡ b → FilledAt (is_filling rows' key) (fills_in (set xs i now) key) o
    go true new true old =
        let one : fills_in (set xs i now) key ≡ true = any_passes_from_place (session_fills key) (set xs i now) i now here new in record {
          filled = h.after key ∙ rw (new, one) refl;
          apart = both_no (fills_in (set xs i now) key) o (λ p q. not_both (fills_in xs key) o f.apart (has old) q);
        }
    go true new false old =
        let one : fills_in (set xs i now) key ≡ true = any_passes_from_place (session_fills key) (set xs i now) i now here new in record {
          filled = h.after key ∙ rw (new, one) refl;
          apart = both_no (fills_in (set xs i now) key) o (λ p q. free new (λ e. true≢false (sym e ∙ old)) q);
        }
    go false new true old =
        let none : fills_in (set xs i now) key ≡ false = any_none (session_fills key) (set xs i now)
        (Every-set (λ (x : Session). session_fills key x ≡ false) xs i now new
        (λ k y ne aty. false_from_ne_true (session_fills key y) (λ is. not_both (session_fills key was) (session_fills key y) ((apart i k was y (λ e. ne (sym e)) at aty).fills key) old is))) in
        let other : o ≡ false = false_from_ne_true o (λ q. not_both (fills_in xs key) o f.apart (has old) q) in record {
          filled = h.after key ∙ rw (new, old, none, other) refl;
          apart = rw none refl;
        }
    go false new false old =
        let same : fills_in (set xs i now) key ≡ fills_in xs key = any_set_same (session_fills key) xs i was now at (new ∙ sym old) in record {
          filled = h.after key ∙ rw (new, old, same) f.filled;
          apart = rw same f.apart;
        }

pub filled_set : (xs : List Session) (i : ℕ) (was now : Session) (rows rows' : Rows) (others : List ℕ → Bool) → slice_get xs i ≡ Some was → EveryTwo Differ xs
    → FillsSo (session_of was).doing (session_of now).doing (is_filling rows) (is_filling rows') → AreFilled rows xs others → AreFilled rows' (set xs i now) others
filled_set xs i was now rows rows' others at apart h f =
    let each : (key : List ℕ) → FilledAt (is_filling rows' key) (fills_in (set xs i now) key) (others key) =
    (λ key. filled_key xs i was now rows rows' key (others key) at apart h (record { filled = f.filled key; apart = f.apart key })) in record {
      filled = λ key. (each key).filled;
      apart = λ key. (each key).apart;
    }

-- ---- the parts

pub parts_stand : (xs : List Session) (i : ℕ) (was : Session) (known known' : Option Parts) → slice_get xs i ≡ Some was → LeavesParts (session_of was).doing known known' → LeavesPartsOf xs known known'
parts_stand xs i was known known' at h = record {
  told = h.told;
  same = λ p is p' is' key none. h.same p is p' is' key (none_any (session_fills key) xs none i was at);
}

-- the law of `others_leave_it`
abbrev pub FedStays : Type 0
FedStays = (s : Session) (was now : Parts) → ((key : List ℕ) → sessions.is_filling key (session_of s).doing ≡ true → now key ≡ was key) → IsFedOf was s → IsFedOf now s

pub fed_set : FedStays → (xs : List Session) (i : ℕ) (was now : Session) (known known' : Option Parts) → slice_get xs i ≡ Some was → EveryTwo Differ xs → LeavesParts (session_of was).doing known known'
    → ForSome known (λ p. IsFedOf p was → ForSome known' (λ p'. IsFedOf p' now)) → ForSome known (λ p. AreAllFed p xs → ForSome known' (λ p'. AreAllFed p' (set xs i now)))
fed_set law xs i was now known known' at apart left fed = λ p is all p' is'.
    Every-set (IsFedOf p') xs i now (fed p is (all i was at) p' is')
    (λ k y ne aty. law y p p' (λ key fills. left.same p is p' is' key
    (false_from_ne_true (session_fills key was) (λ old. not_both (session_fills key was) (session_fills key y) ((apart i k was y (λ e. ne (sym e)) at aty).fills key) old fills)))
    (all k y aty))

-- ---- the session that served

same_owner_itself : (p s : ℕ) → same_owner (Peer p s) (Peer p s) ≡ true
same_owner_itself p s = rw (eqb_refl p, eqb_refl s) refl

pub server_is : (xs : List Session) (i : ℕ) (was : Session) (v : Served) → slice_get xs i ≡ Some was → EveryTwo Differ xs → end_by v ≡ end_of was → server_in xs v ≡ Some was
server_is xs i was v at apart end =
    let same : Peer v.peer v.slot ≡ owner_of was = ap (λ a. Peer a.peer a.slot) end in
    find_one (λ x. same_owner (owner_of x) (Peer v.peer v.slot)) xs i was at (ap (same_owner (owner_of was)) same ∙ same_owner_itself (place_of was).peer (place_of was).slot)
    (λ k y ne aty. ap (same_owner (owner_of y)) same ∙ (apart k i y was ne aty at).owners)
