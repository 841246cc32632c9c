-- What an own entry adds to the counts of the ways at one of its repository's ends.
use Rattle.std.proofs.Common.{◌≡◌, ℕ, ◌+◌, Bool, true, false, List, ◌∷◌, length, Option, Some, None, refl, sym, ap, ◌∙◌, length-append, add-zero, arith}
use Rattle.std.proofs.lemmas.List.{length-map}
use Rattle.std.specs.Prelude.{◌&&◌, ◌==◌, filter, map, if◌then◌else◌}
use Rattle.std.proofs.lemmas.List.Elements.{filter-append}
use Rattle.annex_base.proofs.Conditions.{and_regrouped}
use Rattle.annex_base.proofs.Lists.{filter_both}
use Rattle.annex_base.specs.Bools.{same_bool}
use Rattle.run_data.specs.declared.entry.Entry.{Entry}
use Rattle.run_data.specs.declared.entry.FrameView.{FrameView}
use Rattle.run_model.specs.Past.{is_of}
use Rattle.run_model.specs.Said.{Said, is_request, message_in}
use Rattle.run_model.specs.Frames.{Way, FlyingFrame, flying_frame, is_on, on_way, sender_of, taker_of, frames_sent, sent_if, says, taken_if, takes_if}
use Rattle.node_model.specs.Ends.{EndName, sends_at, sent_at, taken_at, takes_at}
use Rattle.step_facts.proofs.Plain.{filter_map}

-- the ways at an end of r: what it sends, and what it takes, in one epoch
abbrev pub way_out : ℕ → EndName → ℕ → Way
way_out r a n = record { client = if a.client then r else a.peer; server = if a.client then a.peer else r; slot = a.slot; up = a.client; epoch = n }

abbrev pub way_in : ℕ → EndName → ℕ → Way
way_in r a n = record { client = if a.client then r else a.peer; server = if a.client then a.peer else r; slot = a.slot; up = if a.client then false else true; epoch = n }

abbrev pub one_if : Bool → ℕ
one_if b = if b then 1 else 0

-- the frame is of the epoch, and passes the test
abbrev pub hits : (Said → Bool) → ℕ → Option FrameView → Bool
hits q n None = false
hits q n (Some f) = (f.epoch == n) && says q f

-- of these frames, how many of the epoch pass the test
abbrev pub count_in : (Said → Bool) → ℕ → List FrameView → ℕ
count_in q n fs = length (filter (says q) (filter (λ g. g.epoch == n) fs))

-- ---- who sends and takes

out_sender : (r : ℕ) (p : ℕ) (b : Bool) → (if b then (if b then r else p) else (if b then p else r)) ≡ r
out_sender r p true = refl
out_sender r p false = refl

in_taker : (r : ℕ) (p : ℕ) (b : Bool) → (if (if b then false else true) then (if b then p else r) else (if b then r else p)) ≡ r
in_taker r p true = refl
in_taker r p false = refl

pub out_sender-is : (r : ℕ) (a : EndName) (n : ℕ) → sender_of (way_out r a n) ≡ r
out_sender-is r a n = out_sender r a.peer a.client

pub out_taker-is : (r : ℕ) (a : EndName) (n : ℕ) → taker_of (way_out r a n) ≡ a.peer
out_taker-is r a n = out_sender a.peer r a.client

pub in_taker-is : (r : ℕ) (a : EndName) (n : ℕ) → taker_of (way_in r a n) ≡ r
in_taker-is r a n = in_taker r a.peer a.client

pub in_sender-is : (r : ℕ) (a : EndName) (n : ℕ) → sender_of (way_in r a n) ≡ a.peer
in_sender-is r a n = in_taker a.peer r a.client

-- ---- which frames are on them

pub other_side : (u c : Bool) → same_bool u (if c then false else true) ≡ same_bool c (if u then false else true)
other_side true true = refl
other_side true false = refl
other_side false true = refl
other_side false false = refl

is_out : (r : ℕ) (a : EndName) (n : ℕ) (g : FrameView) → is_on (way_out r a n) a.peer g ≡ (sends_at a g && (g.epoch == n))
is_out r a n g = and_regrouped (g.peer == a.peer) (g.slot == a.slot) (same_bool g.up a.client) (g.epoch == n)

is_in : (r : ℕ) (a : EndName) (n : ℕ) (f : FrameView) → is_on (way_in r a n) a.peer f ≡ (takes_at a f && (f.epoch == n))
is_in r a n f = and_regrouped (f.peer == a.peer) (f.slot == a.slot) (same_bool f.up (if a.client then false else true)) (f.epoch == n)
    ∙ ap (λ b. ((f.peer == a.peer) && (f.slot == a.slot) && b) && (f.epoch == n)) (other_side f.up a.client)

pub on_out : (r : ℕ) (a : EndName) (n : ℕ) (e : Entry) → on_way (way_out r a n) e ≡ filter (λ g. g.epoch == n) (sent_at a e.sent)
on_out r a n e = ap (λ p. filter (is_on (way_out r a n) p) e.sent) (out_taker-is r a n)
    ∙ filter_both (is_on (way_out r a n) a.peer) (λ g. g.epoch == n) (sends_at a) (is_out r a n) e.sent

-- ---- what one entry adds

pub sent_own : (q : Said → Bool) (e : Entry) (past : List Entry) (w : Way) → is_of (sender_of w) e ≡ true → length (sent_if q (e ∷ past) w) ≡ length (sent_if q past w) + length (filter (says q) (on_way w e))
sent_own q e past w is = rw is
    (ap length (filter-append (λ (x : FlyingFrame). says q x.frame) (frames_sent past w) (map (flying_frame e past) (on_way w e)))
    ∙ length-append (sent_if q past w) (filter (λ (x : FlyingFrame). says q x.frame) (map (flying_frame e past) (on_way w e)))
    ∙ ap (λ ys. length (sent_if q past w) + length ys) (filter_map (λ (x : FlyingFrame). says q x.frame) (flying_frame e past) (on_way w e))
    ∙ ap (λ k. length (sent_if q past w) + k) (length-map (filter (says q) (on_way w e)) (flying_frame e past)))

pub out_count : (q : Said → Bool) (r : ℕ) (a : EndName) (n : ℕ) (e : Entry) (past : List Entry) → is_of r e ≡ true
    → length (sent_if q (e ∷ past) (way_out r a n)) ≡ length (sent_if q past (way_out r a n)) + count_in q n (sent_at a e.sent)
out_count q r a n e past is = sent_own q e past (way_out r a n) (ap (λ k. is_of k e) (out_sender-is r a n) ∙ is)
    ∙ ap (λ gs. length (sent_if q past (way_out r a n)) + length (filter (says q) gs)) (on_out r a n e)

pub out_other : (q : Said → Bool) (r : ℕ) (a : EndName) (n : ℕ) (e : Entry) (past : List Entry) → is_of r e ≡ false → sent_if q (e ∷ past) (way_out r a n) ≡ sent_if q past (way_out r a n)
out_other q r a n e past is = let no : is_of (sender_of (way_out r a n)) e ≡ false = ap (λ k. is_of k e) (out_sender-is r a n) ∙ is in rw no refl

in_hits : (q : Said → Bool) (r : ℕ) (a : EndName) (n : ℕ) (o : Option FrameView) → takes_if q (way_in r a n) o ≡ hits q n (taken_at a o)
in_hits q r a n None = refl
in_hits q r a n (Some f) = ap (λ p. is_on (way_in r a n) p f && says q f) (in_sender-is r a n) ∙ ap (λ b. b && says q f) (is_in r a n f) ∙ go (takes_at a f)
  where
    go : (b : Bool) → ((b && (f.epoch == n)) && says q f) ≡ hits q n (if b then Some f else None)
    go true = refl
    go false = refl

pub in_count : (q : Said → Bool) (r : ℕ) (a : EndName) (n : ℕ) (e : Entry) (past : List Entry) → is_of r e ≡ true
    → taken_if q (e ∷ past) (way_in r a n) ≡ taken_if q past (way_in r a n) + one_if (hits q n (taken_at a e.taken))
in_count q r a n e past is = ap (λ b. if b then taken_if q past (way_in r a n) + 1 else taken_if q past (way_in r a n)) (ap (λ k. is_of k e && takes_if q (way_in r a n) e.taken) (in_taker-is r a n) ∙ ap (λ b. b && takes_if q (way_in r a n) e.taken) is ∙ in_hits q r a n e.taken)
    ∙ go (hits q n (taken_at a e.taken))
  where
    go : (b : Bool) → (if b then taken_if q past (way_in r a n) + 1 else taken_if q past (way_in r a n)) ≡ taken_if q past (way_in r a n) + one_if b
    go true = refl
    go false = sym (add-zero (taken_if q past (way_in r a n)))

pub in_other : (q : Said → Bool) (r : ℕ) (a : EndName) (n : ℕ) (e : Entry) (past : List Entry) → is_of r e ≡ false → taken_if q (e ∷ past) (way_in r a n) ≡ taken_if q past (way_in r a n)
in_other q r a n e past is = let no : is_of (taker_of (way_in r a n)) e ≡ false = ap (λ k. is_of k e) (in_taker-is r a n) ∙ is in rw no refl

-- ---- an entry that adds nothing, and one that adds a request

pub plus_none : (x y : ℕ) → y ≡ 0 → x + y ≡ x
plus_none x y z = omega (arith, z)

pub on_hits : (f : FrameView) → is_request (message_in f.body) ≡ true → one_if (hits is_request f.epoch (Some f)) ≡ 1
on_hits f e = let self : (f.epoch == f.epoch) ≡ true = grind arith in rw (self, e) refl
