-- The words beside the frames that come to a client's end from a server's.
use Rattle.std.proofs.Common.{◌≡◌, ◌≢◌, ◌⊎◌, inl, inr, ℕ, zero, suc, ◌≤◌, Bool, true, false, ◌&&◌, List, [], ◌∷◌, ◌++◌, Option, Some, refl, sym, ap, ◌∙◌, subst, arith, append_assoc}
use Rattle.std.specs.Prelude.{◌==◌, drop, filter, fold, length, map}
use Rattle.std.specs.List.{AllZip}
use Rattle.std.proofs.lemmas.Bool.{cases_Bool, ne_eqb}
use Rattle.std.proofs.lemmas.List.{append-nil}
use Rattle.std.proofs.lemmas.List.Elements.{filter-append, filter_agree}
use Rattle.annex_base.proofs.Conditions.{and_regrouped, eqb_refl}
use Rattle.annex_base.specs.declared.kinds.EntryStamp.{EntryStamp}
use Rattle.annex_base.specs.declared.kinds.Word.{Word}
use Rattle.annex_base.specs.Bools.{same_bool}
use Rattle.link_ring.specs.declared.frame.Frame.{Frame}
use Rattle.link_ring.specs.Ends.{EndView}
use Rattle.run_data.specs.declared.entry.Entry.{Entry}
use Rattle.run_data.specs.declared.entry.FrameView.{FrameView}
use Rattle.run_model.specs.Frames.{Way, flying_frame, frames_sent, is_on, taken_count}
use Rattle.run_model.specs.Past.{is_of}
use Rattle.run_model.specs.States.{end_at}
use Rattle.run_model.specs.Words.{word_of_kind}
use Rattle.node_model.specs.Ends.{End, EndName, end_sends, frames, sends_at, sent_at}
use Rattle.node_model.specs.Rows.{option_is}
use Rattle.node_ends.specs.declared.sending.Sending.{Sending}
use Rattle.node_ends.specs.declared.sending.Sending.TheVariants as sendings
use Rattle.node_ends.specs.Ends.{stands}
use Rattle.node_ends.specs.Sent.{body_of, link_sends, next_sent, opened_for, text_of_sending}
use Rattle.driver_model.specs.Ways.{IsOver, other_end}
use Rattle.run_laws.specs.Jobs.{is_asked}
use Rattle.link_flights.specs.Words.{AreWorded, HasItsWord, HaveWords, is_line, of_epoch, way_down}
use Rattle.link_flights.proofs.Said.{stands_sent}

-- ---- lists

module _ {X : Type 0} where
  drop_append : (k : ℕ) (xs ys : List X) → k ≤ length xs → drop k (xs ++ ys) ≡ drop k xs ++ ys
  drop_append zero xs ys i = refl
  drop_append (suc k) [] ys i = absurd (omega (arith, i))
  drop_append (suc k) (x ∷ xs) ys i = drop_append k xs ys (omega (arith, i))

  within_append : (k : ℕ) (xs ys : List X) → k ≤ length xs → k ≤ length (xs ++ ys)
  within_append k xs ys i = let j = more xs in omega (arith, i, j)
    where
      more : (zs : List X) → length zs ≤ length (zs ++ ys)
      more [] = omega arith
      more (z ∷ zs) = let j = more zs in omega (arith, j)

  filter_both : (p q : X → Bool) (xs : List X) → filter (λ x. p x && q x) xs ≡ filter q (filter p xs)
  filter_both p q [] = refl
  filter_both p q (x ∷ xs) = elim (cases_Bool (p x)) [
    | inl i ↦ elim (cases_Bool (q x)) [ inl j ↦ rw (i, j) (ap (λ (ys : List X). x ∷ ys) (filter_both p q xs)) | inr j ↦ rw (i, j) (filter_both p q xs) ]
    | inr i ↦ rw i (filter_both p q xs)
  ]

module _ {X Y : Type 0} (P : X → Y → Type 0) where
  zip_append : (xs zs : List X) (ys ws : List Y) → AllZip P xs ys → AllZip P zs ws → AllZip P (xs ++ zs) (ys ++ ws)
  zip_append [] zs [] ws a b = b
  zip_append [] zs (y ∷ ys) ws a b = absurd a
  zip_append (x ∷ xs) zs [] ws a b = absurd a
  zip_append (x ∷ xs) zs (y ∷ ys) ws a b = (a.0, zip_append xs zs ys ws a.1 b)

-- ---- what an end says, one frame after the other

module _ (a : EndName) (sender : EntryStamp) (word : Sending → Option Word) where
  abbrev says : EndView → Sending → EndView
  says v x = link_sends sender (word x) x v

  abbrev one : EndView → Sending → Frame
  one v x = next_sent sender (word x) x (opened_for x v)

  abbrev pub said_frames : List Sending → EndView → List Frame
  said_frames [] v = []
  said_frames (x ∷ said) v = one v x ∷ said_frames said (says v x)

  way_opened : (x : Sending) (v : EndView) → (says v x).on_way ≡ v.on_way ++ one v x ∷ []
  way_opened sendings.Open v = refl
  way_opened sendings.Close v = refl
  way_opened (sendings.Line line listed) v = refl
  way_opened (sendings.Bytes bytes) v = refl

  pub way_said : (said : List Sending) (v : EndView) → (fold says v said).on_way ≡ v.on_way ++ said_frames said v
  way_said [] v = sym (append-nil v.on_way)
  way_said (x ∷ said) v = way_said said (says v x) ∙ ap (λ (fs : List Frame). fs ++ said_frames said (says v x)) (way_opened x v)
      ∙ append_assoc v.on_way (one v x ∷ []) (said_frames said (says v x))

  one_epoch : (x : Sending) (v : EndView) → (one v x).epoch ≡ (end_sends (stands v) (text_of_sending x)).epoch
  one_epoch sendings.Open v = refl
  one_epoch sendings.Close v = refl
  one_epoch (sendings.Line line listed) v = refl
  one_epoch (sendings.Bytes bytes) v = refl

  -- each is of the epoch that is listed, and has its word
  module _ (Fits : Option Word → Type 0) (fits : (x : Sending) → is_line (body_of x) ≡ true → Fits (word x)) where
    abbrev pub Matches : Frame → FrameView → Type 0
    Matches x f = (x.epoch ≡ f.epoch) × (is_line x.body ≡ true → Fits x.word)

    pub said_match : (said : List Sending) (v : EndView) (c : End) → stands v ≡ c → AllZip Matches (said_frames said v) (frames a c (map text_of_sending said))
    said_match [] v c at = tt
    said_match (x ∷ said) v c at = (
      (one_epoch x v ∙ ap (λ (c : End). (end_sends c (text_of_sending x)).epoch) at, fits x),
      said_match said (says v x) (end_sends c (text_of_sending x)) (stands_sent sender (word x) x v ∙ ap (λ (c : End). end_sends c (text_of_sending x)) at),
    )

-- of those of an epoch each is a frame that was sent in it, with its word
words_flying : (e : Entry) (past : List Entry) (n : ℕ) (xs : List Frame) (fs : List FrameView)
    → AllZip (λ x f. (x.epoch ≡ f.epoch) × (is_line x.body ≡ true → is_asked e ≡ true → x.word ≡ word_of_kind e.kind)) xs fs
    → AllZip HasItsWord (of_epoch n xs) (map (flying_frame e past) (filter (λ f. f.epoch == n) fs))
words_flying e past n [] [] a = tt
words_flying e past n [] (f ∷ fs) a = absurd a
words_flying e past n (x ∷ xs) [] a = absurd a
words_flying e past n (x ∷ xs) (f ∷ fs) a = go (f.epoch == n) refl (ap (λ (k : ℕ). k == n) a.0.0) (words_flying e past n xs fs a.1)
  where
    go : (b : Bool) → (f.epoch == n) ≡ b → (x.epoch == n) ≡ (f.epoch == n) → AllZip HasItsWord (of_epoch n xs) (map (flying_frame e past) (filter (λ f. f.epoch == n) fs))
        → AllZip HasItsWord (of_epoch n (x ∷ xs)) (map (flying_frame e past) (filter (λ f. f.epoch == n) (f ∷ fs)))
    go true i j more = rw (j ∙ i, i) (a.0.1, more)
    go false i j more = rw (j ∙ i, i) more

-- ---- what an entry of a server's sends to a client

module _ (past : List Entry) (r : ℕ) (a : EndName) (server : a.client ≡ false) (e : Entry) (mine : e.repo ≡ Some r) (apart : a.peer ≢ r) where
  of_own : is_of r e ≡ true
  of_own = ap (λ (o : Option ℕ). option_is o r) mine ∙ eqb_refl r

  of_peer : is_of a.peer e ≡ false
  of_peer = ap (λ (o : Option ℕ). option_is o a.peer) mine ∙ ne_eqb r a.peer (λ same. apart (sym same))

  module _ (n : ℕ) where
    abbrev w : Way
    w = way_down a.peer (other_end r a) n

    on_sends : (f : FrameView) → is_on w a.peer f ≡ (sends_at a f && (f.epoch == n))
    on_sends f = and_regrouped (f.peer == a.peer) (f.slot == a.slot) (same_bool f.up false) (f.epoch == n)
        ∙ ap (λ (c : Bool). (((f.peer == a.peer) && (f.slot == a.slot)) && same_bool f.up c) && (f.epoch == n)) (sym server)

    sent_more : frames_sent (e ∷ past) w ≡ frames_sent past w ++ map (flying_frame e past) (filter (λ f. f.epoch == n) (sent_at a e.sent))
    sent_more = rw of_own (ap (λ (fs : List FrameView). frames_sent past w ++ map (flying_frame e past) fs)
        (filter_agree (is_on w a.peer) (λ f. sends_at a f && (f.epoch == n)) on_sends e.sent ∙ filter_both (sends_at a) (λ f. f.epoch == n) e.sent))

    taken_still : taken_count (e ∷ past) w ≡ taken_count past w
    taken_still = rw of_peer refl

    more_words : (xs news : List Frame) → AllZip HasItsWord (of_epoch n news) (map (flying_frame e past) (filter (λ f. f.epoch == n) (sent_at a e.sent)))
        → HaveWords past w xs → HaveWords (e ∷ past) w (xs ++ news)
    more_words xs news fresh h = record {
      inside = subst (λ k. k ≤ length (frames_sent (e ∷ past) w)) (sym taken_still)
          (subst (λ fs. taken_count past w ≤ length fs) (sym sent_more) (within_append (taken_count past w) (frames_sent past w) (map (flying_frame e past) (filter (λ f. f.epoch == n) (sent_at a e.sent))) h.inside));
      words = subst (λ k. AllZip HasItsWord (of_epoch n (xs ++ news)) (drop k (frames_sent (e ∷ past) w))) (sym taken_still)
          (subst (λ fs. AllZip HasItsWord (of_epoch n (xs ++ news)) (drop (taken_count past w) fs)) (sym sent_more)
          (subst (λ zs. AllZip HasItsWord zs (drop (taken_count past w) (frames_sent past w ++ map (flying_frame e past) (filter (λ f. f.epoch == n) (sent_at a e.sent))))) (sym (filter-append (λ x. x.epoch == n) xs news))
          (subst (λ fs. AllZip HasItsWord (of_epoch n xs ++ of_epoch n news) fs) (sym (drop_append (taken_count past w) (frames_sent past w) (map (flying_frame e past) (filter (λ f. f.epoch == n) (sent_at a e.sent))) h.inside))
          (zip_append HasItsWord (of_epoch n xs) (of_epoch n news) (drop (taken_count past w) (frames_sent past w)) (map (flying_frame e past) (filter (λ f. f.epoch == n) (sent_at a e.sent))) h.words fresh))));
    }

  -- the peer's end, once the frames have come
  pub words_came : (xs news : List Frame) → AllZip (λ x f. (x.epoch ≡ f.epoch) × (is_line x.body ≡ true → is_asked e ≡ true → x.word ≡ word_of_kind e.kind)) news (sent_at a e.sent)
      → AreWorded past a.peer (other_end r a) xs → AreWorded (e ∷ past) a.peer (other_end r a) (xs ++ news)
  words_came xs news zip worded n = go (worded n)
    where
      same : end_at (e ∷ past) a.peer (other_end r a) ≡ end_at past a.peer (other_end r a)
      same = rw of_peer refl

      go : IsOver (end_at past a.peer (other_end r a)) n ⊎ HaveWords past (way_down a.peer (other_end r a) n) xs
          → IsOver (end_at (e ∷ past) a.peer (other_end r a)) n ⊎ HaveWords (e ∷ past) (way_down a.peer (other_end r a) n) (xs ++ news)
      go (inl o) = inl (subst (λ (c : End). IsOver c n) (sym same) o)
      go (inr h) = inr (more_words n xs news (words_flying e past n news (sent_at a e.sent) zip) h)
