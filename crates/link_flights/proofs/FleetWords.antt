-- The words beside the frames at hand at the clients' ends of all repositories, after an entry of one of them.
use Rattle.std.proofs.Common.{◌≡◌, ◌≢◌, ◌<◌, ◌⊎◌, inl, inr, ℕ, Bool, true, false, List, [], ◌∷◌, ◌++◌, Option, Some, None, refl, sym, ap, ◌∙◌, subst, arith, true≢false}
use Rattle.std.specs.Prelude.{◌+◌, ◌*◌, ◌&&◌, filter, fold, if◌then◌else◌, length, map, replicate}
use Rattle.std.specs.List.{AllZip}
use Rattle.std.proofs.lemmas.List.{append-nil}
use Rattle.std.proofs.lemmas.Bool.{ne_eqb}
use Rattle.annex_base.specs.Lists.{Each}
use Rattle.annex_base.proofs.Lists.{Each-filter, Each-map, Each-passes}
use Rattle.annex_base.specs.declared.kinds.EntryStamp.{EntryStamp}
use Rattle.annex_base.specs.declared.kinds.Word.{Word}
use Rattle.annex_base.proofs.Conditions.{if_turned}
use Rattle.link_ring.specs.declared.frame.Frame.{Frame}
use Rattle.link_ring.specs.Ends.{EndView, after_carry, after_drop, fresh, is_taken}
use Rattle.run_data.specs.declared.entry.Entry.{Entry}
use Rattle.run_data.specs.declared.entry.FrameView.{FrameView}
use Rattle.run_model.specs.Frames.{flying_frame, frames_sent, is_on, on_way, taken_count, takes}
use Rattle.run_model.specs.Past.{is_of}
use Rattle.run_model.specs.States.{end_at, state_of}
use Rattle.run_model.specs.Words.{word_of_kind}
use Rattle.node_model.specs.Ends.{EndName, end_after, end_sends, end_took, is_opening, sends_at, sent_at, taken_at}
use Rattle.node_model.specs.Jobs.{taken_message}
use Rattle.node_model.specs.Rows.{option_is}
use Rattle.node_model.specs.SetUp.{SetUp}
use Rattle.node_ends.specs.declared.sending.Sending.{Sending}
use Rattle.node_ends.specs.Ends.{AreEnds, end_in, link_at, stands}
use Rattle.node_ends.specs.Sent.{body_of}
use Rattle.driver_model.specs.Driver.{Driver, without_old_flights}
use Rattle.driver_model.specs.Ways.{IsOver, other_end}
use Rattle.link_flights.specs.Entries.{PostsAt, link_after, taken_off}
use Rattle.link_flights.specs.Fleets.{AreAllCarried, AreEndsIn, PostsAsDefined}
use Rattle.run_laws.specs.Jobs.{asks_word, is_asked}
use Rattle.link_flights.specs.Words.{AreAllWorded, AreWorded, HaveWords, TellsWords, is_line, way_down}
use Rattle.link_flights.proofs.Dropped.{link_drop}
use Rattle.link_flights.proofs.Fleet.{Becomes, Both, Listed, all_in, is_listed, mapped}
use Rattle.link_flights.proofs.Flown.{hand_still, hand_young, listed_frames, stands_off, way_off, without_taken}
use Rattle.link_flights.proofs.Quiet.{end_first}
use Rattle.link_flights.proofs.WordsSent.{said_frames, said_match, way_said, words_came}
use Rattle.link_flights.proofs.WordsTaken.{words_as, words_dropped, words_still, words_taken}

-- the frames at hand at a client's end have their words
abbrev pub Worded : List Entry → ℕ → EndName → EndView → Type 0
Worded past q a v = a.client ≡ true → AreWorded past q a v.at_hand

-- nothing is carried to an end
none_carried : (past : List Entry) (q : ℕ) (a : EndName) (xs ys : List Frame) → ys ≡ [] → AreWorded past q a xs → AreWorded past q a (xs ++ ys)
none_carried past q a xs ys none worded = subst (λ (zs : List Frame). AreWorded past q a (xs ++ zs)) (sym none) (subst (λ (zs : List Frame). AreWorded past q a zs) (sym (append-nil xs)) worded)

-- an entry between two others changes nothing
pub words_beside : (past : List Entry) (e : Entry) (q : ℕ) (a : EndName) (xs : List Frame) → is_of q e ≡ false → is_of a.peer e ≡ false → AreWorded past q a xs → AreWorded (e ∷ past) q a xs
words_beside past e q a xs other peer worded n = go (worded n)
  where
    same : end_at (e ∷ past) q a ≡ end_at past q a
    same = rw other refl

    go : IsOver (end_at past q a) n ⊎ HaveWords past (way_down q a n) xs → IsOver (end_at (e ∷ past) q a) n ⊎ HaveWords (e ∷ past) (way_down q a n) xs
    go (inl o) = inl (subst (λ c. IsOver c n) (sym same) o)
    go (inr h) = inr (words_as past (e ∷ past) (way_down q a n) xs (rw peer refl) (rw other refl) h)

-- ---- the two ends of a connection of r

module _ (d : Driver) (s : SetUp) (past : List Entry) (r : ℕ) (a : EndName) (v : EndView) (e : Entry) (said : List Sending) (sender : EntryStamp) (word : Sending → Option Word)
    (posts : PostsAt d (state_of s past) r a v e.taken e.sent said) (mine : e.repo ≡ Some r) (apart : a.peer ≢ r) (w : EndView) where
  abbrev after : EndView
  after = link_after sender word a e.taken said v

  -- what it says is what comes
  way_after : v.on_way ≡ [] → after.on_way ≡ said_frames a sender word said (taken_off a e.taken v)
  way_after none = way_said a sender word said (taken_off a e.taken v)
      ∙ ap (λ (fs : List Frame). fs ++ said_frames a sender word said (taken_off a e.taken v)) (way_off d (state_of s past) r a v e.taken e.sent said sender word posts (taken_at a e.taken) ∙ none)

  pub words_there : a.client ≡ false → ((x : Sending) → is_line (body_of x) ≡ true → is_asked e ≡ true → word x ≡ word_of_kind e.kind) → v.on_way ≡ []
      → AreWorded past a.peer (other_end r a) w.at_hand → AreWorded (e ∷ past) a.peer (other_end r a) (after_carry w after).at_hand
  words_there server tells none worded = subst (λ (fs : List Frame). AreWorded (e ∷ past) a.peer (other_end r a) (w.at_hand ++ fs)) (sym (way_after none))
      (words_came past r a server e mine apart w.at_hand (said_frames a sender word said (taken_off a e.taken v)) zip worded)
    where
      zip : AllZip (λ x f. (x.epoch ≡ f.epoch) × (is_line x.body ≡ true → is_asked e ≡ true → x.word ≡ word_of_kind e.kind)) (said_frames a sender word said (taken_off a e.taken v)) (sent_at a e.sent)
      zip = subst (λ fs. AllZip (λ x f. (x.epoch ≡ f.epoch) × (is_line x.body ≡ true → is_asked e ≡ true → x.word ≡ word_of_kind e.kind)) (said_frames a sender word said (taken_off a e.taken v)) fs)
          (sym (listed_frames d (state_of s past) r a v e.taken e.sent said sender word posts))
          (said_match a sender word (λ (o : Option Word). is_asked e ≡ true → o ≡ word_of_kind e.kind) tells said (taken_off a e.taken v) _
          (stands_off d (state_of s past) r a v e.taken e.sent said sender word posts (taken_at a e.taken) posts.takes))

  pub words_here : a.client ≡ true → end_at past r a ≡ stands v → Each (λ f. is_taken v f ≡ true) v.at_hand → w.on_way ≡ []
      → AreWorded past r a v.at_hand → AreWorded (e ∷ past) r a (after_carry after w).at_hand
  words_here client stood young none worded = none_carried (e ∷ past) r a after.at_hand w.on_way none
      (subst (λ (fs : List Frame). AreWorded (e ∷ past) r a fs) (sym (hand_young d (state_of s past) r a v e.taken e.sent said sender word posts young))
      (words_taken past r a client e mine apart v stood posts.takes young worded))

  pub words_stay : a.client ≡ true → end_at past r a ≡ stands v → e.taken ≡ None → Each (λ b. is_opening b ≡ false) (map (λ f. f.body) (sent_at a e.sent)) → w.on_way ≡ []
      → AreWorded past r a v.at_hand → AreWorded (e ∷ past) r a (after_carry after w).at_hand
  words_stay client stood nothing closes none worded = none_carried (e ∷ past) r a after.at_hand w.on_way none
      (subst (λ (fs : List Frame). AreWorded (e ∷ past) r a fs)
      (sym (hand_still d (state_of s past) r a v e.taken e.sent said sender word posts (ap (taken_at a) nothing) closes ∙ ap (λ (o : Option FrameView). without_taken (taken_at a o) v.at_hand) nothing))
      (words_still past r a client e mine apart v stood nothing worded))

-- ---- all ends

module _ (listed : Listed) (s : SetUp) (d : Driver) (was now : ℕ → List EndView) (known : s.number < length s.repos) (ends : AreEndsIn d.flights (length s.repos) was)
    (are : AreEnds (was s.number) s (state_of s d.past)) (worded : AreAllWorded d.past (length s.repos) was) where
  abbrev r : ℕ
  r = s.number

  abbrev count : ℕ
  count = length s.repos

  stood : (a : EndName) (v : EndView) → a.peer < count → a.peer ≢ r → link_at (was r) a ≡ Some v → end_at d.past r a ≡ stands v
  stood a v within apart is = are.ends a (is_listed listed s (was r) a v within apart is) ∙ ap end_in is

  own_way : (a : EndName) (v : EndView) → a.peer < count → a.peer ≢ r → link_at (was r) a ≡ Some v → v.on_way ≡ []
  own_way a v within apart is = (ends r a v known within apart is).on_way

  other_way : (a : EndName) (w : EndView) → a.peer < count → a.peer ≢ r → link_at (was a.peer) (other_end r a) ≡ Some w → w.on_way ≡ []
  other_way a w within apart is = (ends a.peer (other_end r a) w within known (λ same. apart (sym same)) is).on_way

  own_words : (a : EndName) (v : EndView) → a.peer < count → a.peer ≢ r → link_at (was r) a ≡ Some v → a.client ≡ true → AreWorded d.past r a v.at_hand
  own_words a v within apart is client = worded r a v known within apart client is

  other_words : (a : EndName) (w : EndView) → a.peer < count → a.peer ≢ r → link_at (was a.peer) (other_end r a) ≡ Some w → (if a.client then false else true) ≡ true
      → AreWorded d.past a.peer (other_end r a) w.at_hand
  other_words a w within apart is client = worded a.peer (other_end r a) w within known (λ same. apart (sym same)) client is

  -- ---- an entry

  module _ (e : Entry) (mine : e.repo ≡ Some s.number) where
    beside : (q : ℕ) (b : EndName) (w : EndView) → q < count → b.peer < count → b.peer ≢ q → q ≢ r → b.peer ≢ r → link_at (was q) b ≡ Some w → Worded (e ∷ d.past) q b w
    beside q b w within peer apart one two is client = words_beside d.past e q b w.at_hand (other q one) (other b.peer two) (worded q b w within peer apart client is)
      where
        other : (k : ℕ) → k ≢ s.number → is_of k e ≡ false
        other k differs = ap (λ (o : Option ℕ). option_is o k) mine ∙ ne_eqb s.number k (λ same. differs (sym same))

    ordered : (links : (q : ℕ) (a : EndName) (x : EndView) → q < count → a.peer < count → a.peer ≢ q → link_at (now q) a ≡ Some x → Worded (e ∷ d.past) q a x)
        → AreAllWorded (e ∷ d.past) count now
    ordered links q a v within peer apart client is = links q a v within peer apart is client

    pub words_turned : (sender : EntryStamp) (word : EndName → Sending → Option Word) (said : EndName → List Sending) (mine' : List EndView) → TellsWords e word
        → PostsAsDefined s (state_of s d.past) (without_old_flights (state_of s d.past) s.number d) sender word said (map after_drop (was r)) mine' e → AreAllCarried count r mine' was now
        → AreAllWorded (e ∷ d.past) count now
    words_turned sender word said mine' tells posted carried = ordered (all_in (Worded (e ∷ d.past)) (length s.repos) s.number mine' was now carried becomes beside known)
      where
        becomes : Becomes (Worded (e ∷ d.past)) (length s.repos) mine' was s.number
        becomes a x w within apart is other =
            let m = mapped (link_after sender (word a) a e.taken (said a)) (link_at (map after_drop (was s.number)) a) x (sym (posted.links a) ∙ is) in
            let n = mapped after_drop (link_at (was s.number) a) m.v (sym (link_drop (was s.number) a) ∙ m.was) in
            let posts : PostsAt (without_old_flights (state_of s d.past) s.number d) (state_of s d.past) s.number a (after_drop n.v) e.taken e.sent (said a) =
            subst (λ (y : EndView). PostsAt (without_old_flights (state_of s d.past) s.number d) (state_of s d.past) s.number a y e.taken e.sent (said a)) (sym n.it)
            (posted.posts a m.v (is_listed listed s (was s.number) a n.v within apart n.was) m.was) in
            subst (λ (y : EndView). Both (Worded (e ∷ d.past)) s.number a y w) (ap (link_after sender (word a) a e.taken (said a)) n.it ∙ m.it) (
              (λ client. words_here (without_old_flights (state_of s d.past) s.number d) s d.past s.number a (after_drop n.v) e (said a) sender (word a) posts mine apart w client
                  (stood a n.v within apart n.was) (Each-passes (is_taken n.v) n.v.at_hand) (other_way a w within apart other)
                  (words_dropped d.past s.number a n.v (stood a n.v within apart n.was) (own_words a n.v within apart n.was client))),
              (λ client. words_there (without_old_flights (state_of s d.past) s.number d) s d.past s.number a (after_drop n.v) e (said a) sender (word a) posts mine apart w (if_turned a.client client)
                  (λ y line asked. tells a y (if_turned a.client client) line asked) (own_way a n.v within apart n.was) (other_words a w within apart other client)),
            )

    pub words_closed : (sender : EntryStamp) (word : EndName → Sending → Option Word) (said : EndName → List Sending) (mine' : List EndView)
        → e.taken ≡ None → Each (λ f. is_opening f.body ≡ false) e.sent
        → PostsAsDefined s (state_of s d.past) d sender word said (was r) mine' e → AreAllCarried count r mine' was now → AreAllWorded (e ∷ d.past) count now
    words_closed sender word said mine' none closes posted carried = ordered (all_in (Worded (e ∷ d.past)) (length s.repos) s.number mine' was now carried becomes beside known)
      where
        unasked : is_asked e ≡ true → ⊥
        unasked is = true≢false (sym is ∙ ap (λ (o : Option FrameView). asks_word (taken_message o)) none)

        becomes : Becomes (Worded (e ∷ d.past)) (length s.repos) mine' was s.number
        becomes a x w within apart is other =
            let m = mapped (link_after sender (word a) a e.taken (said a)) (link_at (was s.number) a) x (sym (posted.links a) ∙ is) in
            let posts = posted.posts a m.v (is_listed listed s (was s.number) a m.v within apart m.was) m.was in
            subst (λ (y : EndView). Both (Worded (e ∷ d.past)) s.number a y w) m.it (
              (λ client. words_stay d s d.past s.number a m.v e (said a) sender (word a) posts mine apart w client (stood a m.v within apart m.was) none
                  (Each-map (λ b. is_opening b ≡ false) (λ (f : FrameView). f.body) (sent_at a e.sent) (Each-filter (λ f. is_opening f.body ≡ false) (sends_at a) e.sent closes))
                  (other_way a w within apart other) (own_words a m.v within apart m.was client)),
              (λ client. words_there d s d.past s.number a m.v e (said a) sender (word a) posts mine apart w (if_turned a.client client)
                  (λ y line asked. absurd (unasked asked)) (own_way a m.v within apart m.was) (other_words a w within apart other client)),
            )

  -- ---- a turn without an entry

  pub words_idle : AreAllCarried count r (map after_drop (was r)) was now → AreAllWorded d.past count now
  words_idle carried q a v within peer apart client is = all_in (Worded d.past) (length s.repos) s.number (map after_drop (was s.number)) was now carried becomes still known q a v within peer apart is client
    where
      becomes : Becomes (Worded d.past) (length s.repos) (map after_drop (was s.number)) was s.number
      becomes a x w within apart is other =
          let n = mapped after_drop (link_at (was s.number) a) x (sym (link_drop (was s.number) a) ∙ is) in
          subst (λ (y : EndView). Both (Worded d.past) s.number a y w) n.it (
            (λ client. none_carried d.past s.number a (after_drop n.v).at_hand w.on_way (other_way a w within apart other)
                (words_dropped d.past s.number a n.v (stood a n.v within apart n.was) (own_words a n.v within apart n.was client))),
            (λ client. none_carried d.past a.peer (other_end s.number a) w.at_hand n.v.on_way (own_way a n.v within apart n.was) (other_words a w within apart other client)),
          )

      still : (q : ℕ) (b : EndName) (w : EndView) → q < length s.repos → b.peer < length s.repos → b.peer ≢ q → q ≢ s.number → b.peer ≢ s.number → link_at (was q) b ≡ Some w → Worded d.past q b w
      still q b w within peer apart one two is client = worded q b w within peer apart client is

-- ---- at first, and what takes and sends nothing

pub words_first : (number : ℕ) → AreAllWorded [] number (λ q. replicate (number * 8) fresh)
words_first number q a v within peer apart client is n = inr (subst (λ (w : EndView). HaveWords [] (way_down q a n) w.at_hand) (sym (end_first number a v is)) (record { inside = omega arith; words = tt }))

pub words_quiet : (past : List Entry) (number : ℕ) (ends : ℕ → List EndView) (e : Entry) → e.taken ≡ None → e.sent ≡ [] → AreAllWorded past number ends → AreAllWorded (e ∷ past) number ends
words_quiet past number ends e none nothing worded q a v within peer apart client is n = go (worded q a v within peer apart client is n)
  where
    sent : frames_sent (e ∷ past) (way_down q a n) ≡ frames_sent past (way_down q a n)
    sent = at (is_of a.peer e)
      where
        at : (b : Bool) → (if b then frames_sent past (way_down q a n) ++ map (flying_frame e past) (on_way (way_down q a n) e) else frames_sent past (way_down q a n)) ≡ frames_sent past (way_down q a n)
        at true = ap (λ (fs : List FrameView). frames_sent past (way_down q a n) ++ map (flying_frame e past) (filter (is_on (way_down q a n) q) fs)) nothing ∙ append-nil (frames_sent past (way_down q a n))
        at false = refl

    taken : taken_count (e ∷ past) (way_down q a n) ≡ taken_count past (way_down q a n)
    taken = at (is_of q e)
      where
        at : (b : Bool) → (if b && takes (way_down q a n) e.taken then taken_count past (way_down q a n) + 1 else taken_count past (way_down q a n)) ≡ taken_count past (way_down q a n)
        at true = ap (λ (o : Option FrameView). if takes (way_down q a n) o then taken_count past (way_down q a n) + 1 else taken_count past (way_down q a n)) none
        at false = refl

    end : end_at (e ∷ past) q a ≡ end_at past q a
    end = at (is_of q e)
      where
        at : (b : Bool) → (if b then end_after a (end_at past q a) e else end_at past q a) ≡ end_at past q a
        at true = ap (λ (o : Option FrameView). fold (λ c f. end_sends c f.body) (end_took (end_at past q a) (taken_at a o)) (sent_at a e.sent)) none
            ∙ ap (λ (fs : List FrameView). fold (λ c f. end_sends c f.body) (end_at past q a) (sent_at a fs)) nothing
        at false = refl

    go : IsOver (end_at past q a) n ⊎ HaveWords past (way_down q a n) v.at_hand → IsOver (end_at (e ∷ past) q a) n ⊎ HaveWords (e ∷ past) (way_down q a n) v.at_hand
    go (inl o) = inl (subst (λ c. IsOver c n) (sym end) o)
    go (inr h) = inr (words_as past (e ∷ past) (way_down q a n) v.at_hand sent taken h)
