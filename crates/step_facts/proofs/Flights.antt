-- Frames on their way: who sent them.
use Rattle.std.proofs.Common.{◌≡◌, ℕ, zero, suc, Bool, true, false, List, [], ◌∷◌, ◌++◌, Option, Some, None, ◌⊎◌, inl, inr, refl, sym, subst}
use Rattle.std.specs.Prelude.{map, slice_get, option_map, if◌then◌else◌}
use Rattle.std.proofs.lemmas.Option.{same_Some}
use Rattle.annex_base.specs.Lists.{Member}
use Rattle.annex_base.proofs.Lists.{Member-append_left, Member-append_right}
use Rattle.run_data.specs.declared.entry.Entry.{Entry}
use Rattle.run_data.specs.declared.entry.FrameView.{FrameView}
use Rattle.run_model.specs.Past.{Always, Occurs, is_of}
use Rattle.run_model.specs.Frames.{Way, FlyingFrame, SendingEntry, flying_frame, on_way, sender_of, frames_sent, sending_entry, taken_count, way_of, sender}
use Rattle.run_model.specs.Drops.{Vouch, vouch, vouches}
use Rattle.std.specs.List.{list_any}
use Rattle.std.proofs.lemmas.Bool.{or_left, or_right}
use Rattle.step_facts.proofs.Plain.{member_mapped}

-- ---- entries that stand in a past

pub occurs_always : (P : List Entry → Entry → Type 0) (past : List Entry) (x : Entry) (before : List Entry) → Always P past → Occurs past x before → P before x
occurs_always P [] x before h o = absurd o
occurs_always P (e ∷ past) x before h (inl o) = subst (λ (q : List Entry). P q x) (sym o.1) (subst (λ (y : Entry). P past y) (sym o.0) h.0)
occurs_always P (e ∷ past) x before h (inr o) = occurs_always P past x before h.1 o

pub always_before : (P : List Entry → Entry → Type 0) (past : List Entry) (x : Entry) (before : List Entry) → Always P past → Occurs past x before → Always P before
always_before P [] x before h o = absurd o
always_before P (e ∷ past) x before h (inl o) = subst (λ (q : List Entry). Always P q) (sym o.1) h.1
always_before P (e ∷ past) x before h (inr o) = always_before P past x before h.1 o

pub occurs_earlier : (past : List Entry) (x y : Entry) (before older : List Entry) → Occurs past x before → Occurs before y older → Occurs past y older
occurs_earlier [] x y before older o p = absurd o
occurs_earlier (e ∷ past) x y before older (inl o) p = inr (subst (λ (q : List Entry). Occurs q y older) o.1 p)
occurs_earlier (e ∷ past) x y before older (inr o) p = inr (occurs_earlier past x y before older o p)

pub occurs_any : (q : Entry → Bool) (past : List Entry) (x : Entry) (before : List Entry) → Occurs past x before → q x ≡ true → list_any q past ≡ true
occurs_any q [] x before o h = absurd o
occurs_any q (e ∷ past) x before (inl o) h = or_left (q e) (list_any q past) (subst (λ (y : Entry). q y ≡ true) o.0 h)
occurs_any q (e ∷ past) x before (inr o) h = or_right (q e) (list_any q past) (occurs_any q past x before o h)

pub occurs_vouch : (past : List Entry) (x : Entry) (before : List Entry) (r a j : ℕ) (v : Vouch) → Occurs past x before → Member v (vouch before x r a j) → Member v (vouches past r a j)
occurs_vouch [] x before r a j v o m = absurd o
occurs_vouch (e ∷ past) x before r a j v (inl o) m =
    Member-append_left (vouch past e r a j) (vouches past r a j) v (subst (λ (q : List Entry). Member v (vouch q e r a j)) o.1 (subst (λ (y : Entry). Member v (vouch before y r a j)) o.0 m))
occurs_vouch (e ∷ past) x before r a j v (inr o) m = Member-append_right (vouch past e r a j) (vouches past r a j) v (occurs_vouch past x before r a j v o m)

pub occurs_vouches : (past : List Entry) (x : Entry) (before : List Entry) (r a j : ℕ) (v : Vouch) → Occurs past x before → Member v (vouches before r a j) → Member v (vouches past r a j)
occurs_vouches [] x before r a j v o m = absurd o
occurs_vouches (e ∷ past) x before r a j v (inl o) m = Member-append_right (vouch past e r a j) (vouches past r a j) v (subst (λ (q : List Entry). Member v (vouches q r a j)) o.1 m)
occurs_vouches (e ∷ past) x before r a j v (inr o) m = Member-append_right (vouch past e r a j) (vouches past r a j) v (occurs_vouches past x before r a j v o m)

-- ---- frames

pub get_none : {X : Type 0} (k : ℕ) (x : X) → slice_get [] k ≡ Some x → ⊥
get_none zero x h = cc
get_none (suc k) x h = cc

pub get_member : {X : Type 0} (xs : List X) (k : ℕ) (x : X) → slice_get xs k ≡ Some x → Member x xs
get_member [] k x h = absurd (get_none k x h)
get_member (y ∷ xs) zero x h = inl (sym (same_Some y x h))
get_member (y ∷ xs) (suc k) x h = inr (get_member xs k x h)

pub get_append : {X : Type 0} (xs ys : List X) (k : ℕ) (x : X) → slice_get (xs ++ ys) k ≡ Some x → (slice_get xs k ≡ Some x) ⊎ Member x ys
get_append [] ys k x h = inr (get_member ys k x h)
get_append (y ∷ xs) ys zero x h = inl h
get_append (y ∷ xs) ys (suc k) x h = get_append xs ys k x h

-- a frame on a way was sent by an entry of the past
pub record Sending (past : List Entry) (w : Way) (it : FlyingFrame) : Type 0 where
  pub occurs : Occurs past it.entry it.before
  pub repo_is : is_of (sender_of w) it.entry ≡ true
  pub sends : Member it.frame (on_way w it.entry)

pub sending : (past : List Entry) (w : Way) (k : ℕ) (it : FlyingFrame) → slice_get (frames_sent past w) k ≡ Some it → Sending past w it
sending [] w k it h = absurd (get_none k it h)
sending (e ∷ past) w k it h = go (λ g. sending past w k it g) (is_of (sender_of w) e) refl h
  where
    older : Sending past w it → Sending (e ∷ past) w it
    older s = record { occurs = inr s.occurs; repo_is = s.repo_is; sends = s.sends }

    go : (slice_get (frames_sent past w) k ≡ Some it → Sending past w it) → (b : Bool) → is_of (sender_of w) e ≡ b
        → slice_get (if b then frames_sent past w ++ map (flying_frame e past) (on_way w e) else frames_sent past w) k ≡ Some it → Sending (e ∷ past) w it
    go ih false is g = older (ih g)
    go ih true is g = elim (get_append (frames_sent past w) (map (flying_frame e past) (on_way w e)) k it g) [
      | inl s ↦ older (ih s)
      | inr m ↦ let t = member_mapped (flying_frame e past) (on_way w e) it m in
          subst (λ (x : FlyingFrame). Sending (e ∷ past) w x) (sym t.2) (record { occurs = inl (refl, refl); repo_is = is; sends = t.1 })
    ]

-- who sent the frame that was taken
pub record SentFrom (past : List Entry) (r : ℕ) (o : Option FrameView) (s : SendingEntry) : Type 0 where
  pub f : FrameView
  pub takes_it : o ≡ Some f
  pub it : FlyingFrame
  pub next : slice_get (frames_sent past (way_of r f)) (taken_count past (way_of r f)) ≡ Some it
  pub s_is : s ≡ sending_entry it
  pub sending : Sending past (way_of r f) it

pub sent_from : (past : List Entry) (r : ℕ) (o : Option FrameView) (s : SendingEntry) → sender past r o ≡ Some s → SentFrom past r o s
sent_from past r None s h = cc
sent_from past r (Some f) s h = go (slice_get (frames_sent past (way_of r f)) (taken_count past (way_of r f))) refl h
  where
    go : (x : Option FlyingFrame) → slice_get (frames_sent past (way_of r f)) (taken_count past (way_of r f)) ≡ x → option_map sending_entry x ≡ Some s → SentFrom past r (Some f) s
    go None is k = cc
    go (Some it) is k = record { f = f; takes_it = refl; it = it; next = is; s_is = sym (same_Some (sending_entry it) s k); sending = sending past (way_of r f) (taken_count past (way_of r f)) it is }

pub sender_occurs : (past : List Entry) (r : ℕ) (o : Option FrameView) (s : SendingEntry) → sender past r o ≡ Some s → Occurs past s.entry s.before
sender_occurs past r o s h = let t = sent_from past r o s h in subst (λ (x : SendingEntry). Occurs past x.entry x.before) (sym t.s_is) t.sending.occurs
