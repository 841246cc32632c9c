-- Sessions that are spent one after the other, and one that is closed.
use Rattle.std.proofs.Common.{◌≡◌, ◌≢◌, ℕ, zero, suc, ◌<◌, Bool, true, false, List, [], ◌∷◌, ◌++◌, Option, Some, All, map, inl, inr, refl, sym, ap, subst, ◌∙◌, arith, append_assoc}
use Rattle.std.specs.Prelude.{slice_get, ◌||◌, ◌&&◌, if◌then◌else◌, is_some, length}
use Rattle.std.specs.List.{list_any}
use Rattle.std.proofs.lemmas.Option.{slice_get_within}
use Rattle.std.proofs.lemmas.Bool.{false_from_ne_true}
use Rattle.std.proofs.lemmas.Map.Keys.{any_passes_from_place}
use Rattle.annex_base.specs.Lists.{Member}
use Rattle.annex_base.proofs.Lists.{slice_get-left}
use Rattle.run_data.specs.declared.entry.By.{By}
use Rattle.run_data.specs.declared.entry.EntryKind.TheVariants.{Close}
use Rattle.run_data.specs.declared.entry.FrameText.TheVariants.{Closing}
use Rattle.run_data.specs.declared.row.Hold.{Hold}
use Rattle.object_store.specs.Stores.{Parts}
use Rattle.object_store.specs.declared.keeper.HoldRecord.{HoldRecord}
use Rattle.content_lock.specs.Rows.{Rows, is_filling}
use Rattle.content_lock.specs.Stored.{Agrees}
use Rattle.link_ring.specs.Ends.{EndView}
use Rattle.node_model.specs.Ends.{End, frames, server_end}
use Rattle.node_model.specs.Rows.{keep_of, restart, same_owner}
use Rattle.node_model.specs.Sessions as sessions
use Rattle.node_model.specs.SetUp.{SetUp}
use Rattle.node_model.specs.State.{State}
use Rattle.node_ends.specs.Ends.{link_at}
use Rattle.p2p_server.specs.declared.Place.{Place}
use Rattle.p2p_server.specs.declared.session.Session.{Session}
use Rattle.p2p_server.specs.Stepping.{LeavesOthers}
use Rattle.p2p_server.specs.Talking.{AreAfterStep, FillsSo, IsFedOf, place_of, session_of, share_of}
use Rattle.node_sessions.specs.Built.{AreLeft, ClosesAmong}
use Rattle.node_sessions.specs.Serving.{closing_made, sessions_after}
use Rattle.node_sessions.specs.Sessions.{AreFilled, AreSessions, Differ, AreAllFed, HaveEnds, OwnAll, connection_of, end_of, fills_in, owner_of, session_fills}
use Rattle.node_sessions.proofs.Filling.{not_both, stays_filled}
use Rattle.node_sessions.proofs.Listing.{Every-set, any_none, map_set}
use Rattle.node_sessions.proofs.Standing.{StepsAt, filled_set, own_set}
use Rattle.node_sessions.proofs.Stepping.{next_made}

pub last_at : {X : Type 0} (ys : List X) (x : X) → slice_get (ys ++ x ∷ []) (length ys) ≡ Some x
last_at [] x = refl
last_at (y ∷ ys) x = last_at ys x

pub member_place : {X Y : Type 0} (f : X → Y) (xs : List X) (c : Y) → Member c (map f xs) → (i : ℕ) × (x : X) × (slice_get xs i ≡ Some x) × (f x ≡ c)
member_place f [] c among = absurd among
member_place f (x ∷ xs) c (inl is) = (zero, x, refl, sym is)
member_place f (x ∷ xs) c (inr later) = let h = member_place f xs c later in (suc h.0, h.1, h.2, h.3)

any_push_no : {X : Type 0} (p : X → Bool) (ys : List X) (x : X) → p x ≡ false → list_any p (ys ++ x ∷ []) ≡ list_any p ys
any_push_no p [] x fails = rw fails refl
any_push_no p (y ∷ ys) x fails = ap (λ (b : Bool). p y || b) (any_push_no p ys x fails)

-- ---- one is spent

pub record EndedSo (x : Session) (rows rows' : Rows) : Type 0 where
  pub after : AreAfterStep (Close (place_of x).peer (place_of x).slot false) rows rows'
  pub numbers : (n : ℕ) → All (λ h. h.number < n) rows.holds → All (λ h. h.number < n) rows'.holds
  pub filled : FillsSo (session_of x).doing sessions.Waits (is_filling rows) (is_filling rows')
  pub others : LeavesOthers (owner_of x) rows rows'
  pub agrees : (known : Option (List HoldRecord)) → Agrees known rows.holds → Agrees known rows'.holds

ne_last : (ys : List Session) (k : ℕ) (y : Session) → slice_get ys k ≡ Some y → length ys ≢ k
ne_last ys k y at e =
    let within : k < length ys = slice_get_within ys k y at in omega (arith, within, e)

left_own : (ys : List Session) (x : Session) (rows rows' : Rows) → OwnAll rows (ys ++ x ∷ []) → EndedSo x rows rows' → OwnAll rows' ys
left_own ys x rows rows' own e = record {
  shares = λ k y at. e.others (owner_of y) (share_of y) (differ k y at).owners (own.shares k y (slice_get-left ys (x ∷ []) k y at));
  fills = λ k y at key is. stays_filled (session_of x).doing sessions.Waits (is_filling rows) (is_filling rows') e.filled key
      (λ old. not_both (session_fills key x) (session_fills key y) ((differ k y at).fills key) old is) (own.fills k y (slice_get-left ys (x ∷ []) k y at) key is);
  apart = λ j k y z ne aty atz. own.apart j k y z ne (slice_get-left ys (x ∷ []) j y aty) (slice_get-left ys (x ∷ []) k z atz);
}
  where
    differ : (k : ℕ) (y : Session) → slice_get ys k ≡ Some y → Differ x y
    differ k y at = own.apart (length ys) k x y (ne_last ys k y at) (last_at ys x) (slice_get-left ys (x ∷ []) k y at)

record FilledIn (f one o : Bool) : Type 0 where
  pub filled : f ≡ (one || o)
  pub apart : (one && o) ≡ false

left_key : (ys : List Session) (x : Session) (rows rows' : Rows) (key : List ℕ) (o : Bool) → OwnAll rows (ys ++ x ∷ []) → EndedSo x rows rows' → FilledIn (is_filling rows key) (fills_in (ys ++ x ∷ []) key) o
    → FilledIn (is_filling rows' key) (fills_in ys key) o
left_key ys x rows rows' key o own e f = go (session_fills key x) refl
  where
    go : (b : Bool) → session_fills key x ≡ b → FilledIn (is_filling rows' key) (fills_in ys key) o
    go true is =
        let has : fills_in (ys ++ x ∷ []) key ≡ true = any_passes_from_place (session_fills key) (ys ++ x ∷ []) (length ys) x (last_at ys x) is in
        let other : o ≡ false = false_from_ne_true o (λ q. not_both (fills_in (ys ++ x ∷ []) key) o f.apart has q) in
        let none : fills_in ys key ≡ false = any_none (session_fills key) ys
        (λ k y at. false_from_ne_true (session_fills key y) (λ q. not_both (session_fills key x) (session_fills key y)
        ((own.apart (length ys) k x y (ne_last ys k y at) (last_at ys x) (slice_get-left ys (x ∷ []) k y at)).fills key) is q)) in record {
          filled = e.filled.after key ∙ rw (is, none, other) refl;
          apart = rw none refl;
        }
    go false is =
        let same : fills_in (ys ++ x ∷ []) key ≡ fills_in ys key = any_push_no (session_fills key) ys x is in record {
          filled = e.filled.after key ∙ rw is (f.filled ∙ ap (λ (b : Bool). b || o) same);
          apart = ap (λ (b : Bool). b && o) (sym same) ∙ f.apart;
        }

left_filled : (ys : List Session) (x : Session) (rows rows' : Rows) (others : List ℕ → Bool) → OwnAll rows (ys ++ x ∷ []) → EndedSo x rows rows' → AreFilled rows (ys ++ x ∷ []) others → AreFilled rows' ys others
left_filled ys x rows rows' others own e f =
    let each : (key : List ℕ) → FilledIn (is_filling rows' key) (fills_in ys key) (others key) = (λ key. left_key ys x rows rows' key (others key) own e (record { filled = f.filled key; apart = f.apart key })) in record {
      filled = λ key. (each key).filled;
      apart = λ key. (each key).apart;
    }

pub restart_kept : (clock : ℕ) (by : By) (hs : List Hold) → map (restart clock) (map (keep_of by) hs) ≡ map (restart clock) hs
restart_kept clock by [] = refl
restart_kept clock by (h ∷ hs) =
    ap (λ (x : Hold). x ∷ map (restart clock) (map (keep_of by) hs)) (one (same_owner h.owner by)) ∙ ap (λ (l : List Hold). restart clock h ∷ l) (restart_kept clock by hs)
  where
    one : (b : Bool) → restart clock (if b then record h { kept = true } else h) ≡ restart clock h
    one true = refl
    one false = refl

pub left_step : (all ys : List Session) (x : Session) (was rows rows' : Rows) → AreLeft all (ys ++ x ∷ []) was rows → EndedSo x rows rows' → AreLeft all ys was rows'
left_step all ys x was rows rows' h e = record {
  rest = x ∷ h.rest;
  front = h.front ∙ append_assoc ys (x ∷ []) h.rest;
  own = left_own ys x rows rows' h.own e;
  others = λ by share other own. e.others by share (other (length ys) x there) (h.others by share other own);
  filled = λ others f. left_filled ys x rows rows' others h.own e (h.filled others f);
  numbers = λ n less. e.numbers n (h.numbers n less);
  agrees = λ known a. e.agrees known (h.agrees known a);
  bars = λ key. e.after.bars key ∙ h.bars key;
  crash = λ clock. ap (map (restart clock)) e.after.holds ∙ restart_kept clock (owner_of x) rows.holds ∙ h.crash clock;
}
  where
    there : slice_get all (length ys) ≡ Some x
    there = ap (λ (l : List Session). slice_get l (length ys)) h.front ∙ slice_get-left (ys ++ x ∷ []) h.rest (length ys) x (last_at ys x)

-- ---- one is closed

closes_step : (at : ℕ) (xs xs' : List Session) (rows rows' : Rows) (a : ClosesAmong at xs xs' rows rows') → StepsAt a.was a.now rows rows'
closes_step at xs xs' rows rows' a = record {
  place = a.closed.place;
  owns = a.closed.owns;
  fills = a.closed.fills;
  others = a.closed.others;
  filled = subst (λ (t : sessions.Session). FillsSo (session_of a.was).doing t.doing (is_filling rows) (is_filling rows')) (sym a.closed.session) a.closed.filled;
}

pub closes_own : (at : ℕ) (xs xs' : List Session) (rows rows' : Rows) → ClosesAmong at xs xs' rows rows' → OwnAll rows xs → OwnAll rows' xs'
closes_own at xs xs' rows rows' a own = subst (OwnAll rows') (sym a.left) (own_set xs at a.was a.now rows rows' a.here own (closes_step at xs xs' rows rows' a))

pub closes_filled : (at : ℕ) (xs xs' : List Session) (rows rows' : Rows) → ClosesAmong at xs xs' rows rows' → OwnAll rows xs → (others : List ℕ → Bool) → AreFilled rows xs others → AreFilled rows' xs' others
closes_filled at xs xs' rows rows' a own others f =
    subst (λ (l : List Session). AreFilled rows' l others) (sym a.left) (filled_set xs at a.was a.now rows rows' others a.here own.apart (closes_step at xs xs' rows rows' a).filled f)

pub closes_places : (at : ℕ) (xs xs' : List Session) (rows rows' : Rows) → ClosesAmong at xs xs' rows rows' → map place_of xs' ≡ map place_of xs
closes_places at xs xs' rows rows' a = ap (λ (l : List Session). map place_of l) a.left ∙ map_set place_of xs at a.was a.now a.here a.closed.place

pub closes_there : (at : ℕ) (xs xs' : List Session) (rows rows' : Rows) → ClosesAmong at xs xs' rows rows' → (ends : List EndView) → HaveEnds ends xs → HaveEnds ends xs'
closes_there at xs xs' rows rows' a ends there =
    subst (HaveEnds ends) (sym a.left)
    (Every-set (λ (x : Session). is_some (link_at ends (end_of x)) ≡ true) xs at a.now
    (subst (λ (p : Place). is_some (link_at ends (server_end p.peer p.slot)) ≡ true) (sym a.closed.place) (there at a.was a.here)) (λ k y ne aty. there k y aty))

pub closes_fed : (at : ℕ) (xs xs' : List Session) (rows rows' : Rows) → ClosesAmong at xs xs' rows rows' → (p : Parts) → AreAllFed p xs → AreAllFed p xs'
closes_fed at xs xs' rows rows' a p fed = subst (AreAllFed p) (sym a.left) (Every-set (IsFedOf p) xs at a.now (a.closed.fed p) (λ k y ne aty. fed k y aty))

pub closes_sessions : (at : ℕ) (xs xs' : List Session) (rows rows' : Rows) (peer slot : ℕ) → (a : ClosesAmong at xs xs' rows rows') → connection_of a.was ≡ (peer, slot) → OwnAll rows xs
    → (s : SetUp) (st : State) (c : End) → AreSessions s st.sessions xs → AreSessions s (sessions_after st (Some (closing_made peer slot c))) xs'
closes_sessions at xs xs' rows rows' peer slot a is own s st c are =
    subst (AreSessions s (sessions_after st (Some (closing_made peer slot c)))) (sym a.left)
    (next_made [] (closing_made peer slot c) c (Closing ∷ []) xs at a.was a.now s st a.here own.apart (ap (λ (x : ℕ × ℕ). frames (server_end x.0 x.1) c (Closing ∷ [])) (sym is)) (λ f e. absurd cc) a.closed.place are a.closed.session)
