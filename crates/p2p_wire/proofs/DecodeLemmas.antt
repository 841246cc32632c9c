-- However a stream is cut into pieces, its items are given in order.
use Rattle.std.proofs.Common.{◌≡◌, ◌≢◌, ◌⊎◌, inl, inr, ℕ, ◌+◌, ◌-◌, ◌≤◌, true, false, List, [], ◌∷◌, ◌++◌, length, take, drop, Some, None, refl, sym, ap, ◌∙◌, subst, arith}
use Rattle.std.specs.Prelude.{◌==◌, nat_le, nat_lt, map, flat_map}
use Rattle.std.specs.List.{before_first}
use Rattle.std.proofs.lemmas.Bool.{ne_eqb}
use Rattle.std.proofs.lemmas.Bool.Decides.{nat_tests}
use Rattle.std.proofs.lemmas.List.{append-nil, append_assoc, drop_at, length-append, map-append, take_all, take_at}
use Rattle.annex_base.specs.Lines.{is_newline, newline, IsOneLine}
use Rattle.annex_base.specs.Lists.{Each, Member}
use Rattle.annex_base.proofs.Conditions.{if_is}
use Rattle.annex_base.proofs.Lists.{append_nil_left, Contains-from_Member, Each-from_members, two_cuts}
use Rattle.p2p_wire.specs.declared.message.Message.{Message}
use Rattle.p2p_wire.specs.Messages.{message_of, text_of}
use Rattle.p2p_wire.specs.Streams.{Decodes, DecoderView, Says, Gives, Waits, Item, IsItem, Sign, Raw, DecoderEvent, Fed, Asked, start, next_answer, after, after_told, after_all, answers, after_giving, after_piece, after_piece_by, fed_bytes, unread_told, line_told, raw_told, whole_line, line_len, line_of, raw_after, stream_of, signs_of, signs_in}

-- ---- the next line

abbrev pub IsClear : List ℕ → Type 0
IsClear text = Each (λ b. is_newline b ≡ false) text

-- a text of one line: its newline is the first
pub clear_len : (text rest : List ℕ) → IsClear text → line_len (text ++ newline ∷ rest) ≡ length text
clear_len [] rest clear = refl
clear_len (b ∷ text) rest clear = rw clear.0 (let more = clear_len text rest clear.1 in omega (arith, more))

pub clear_whole : (text : List ℕ) → IsClear text → line_len text ≡ length text
clear_whole [] clear = refl
clear_whole (b ∷ text) clear = rw clear.0 (let more = clear_whole text clear.1 in omega (arith, more))

clear_front : (front rest : List ℕ) → IsClear (front ++ rest) → IsClear front
clear_front [] rest clear = tt
clear_front (b ∷ front) rest clear = (clear.0, clear_front front rest clear.1)

pub clear_text : (text : List ℕ) → IsOneLine text → IsClear text
clear_text text one = Each-from_members (λ b. is_newline b ≡ false) text (λ b among.
    ne_eqb b newline (λ is. one (Contains-from_Member text newline (subst (λ (c : ℕ). Member c text) is among))))

-- an unfinished line
pub line_waits : (place : ℕ) (text : List ℕ) → IsClear text → length text ≤ 8192 → line_told place text ≡ Waits
line_waits place text clear short =
    let whole : line_len text ≡ length text = clear_whole text clear in
    let fits : nat_lt 8192 (line_len text) ≡ false = rw whole (grind (arith, nat_tests)) in
    let open' : (line_len text == length text) ≡ true = rw whole (grind (arith, nat_tests)) in
    rw (fits, open') refl

-- a whole one
pub line_comes : (place : ℕ) (text rest : List ℕ) (m : Message) → IsClear text → length text ≤ 8192 → message_of text ≡ Some m → line_told place (text ++ newline ∷ rest) ≡ Says m
line_comes place text rest m clear short read =
    let whole : line_len (text ++ newline ∷ rest) ≡ length text = clear_len text rest clear in
    let long : length (text ++ newline ∷ rest) ≡ length text + length (newline ∷ rest) = length-append text (newline ∷ rest) in
    let front : before_first is_newline (text ++ newline ∷ rest) ≡ text = take_at text (newline ∷ rest) (line_len (text ++ newline ∷ rest)) (sym whole) in
    let fits : nat_lt 8192 (line_len (text ++ newline ∷ rest)) ≡ false = rw whole (grind (arith, nat_tests)) in
    let more : (line_len (text ++ newline ∷ rest) == length (text ++ newline ∷ rest)) ≡ false = rw (whole, long) (grind (arith, nat_tests)) in
    rw (fits, more) (ap (whole_line place) (ap message_of front ∙ read))

pub read_short : (text : List ℕ) (m : Message) → message_of text ≡ Some m → length text ≤ 8192
read_short text m e = elim (if_is (nat_le (length text) 8192) _ _ _ e) [
  | inl short ↦ let fits = short.0 in grind (arith, nat_tests)
  | inr long ↦ absurd (let other = long.1 in cc)
]

-- ---- where a decoder stands in a stream

-- so many raw bytes come next, and then these items; of all that, these bytes are not fed yet
record Stands (u : DecoderView) (raw : List ℕ) (items : List Item) (ys : List ℕ) : Type 0 where
  sound : u.fault ≡ None
  left : u.left ≡ length raw
  bytes : u.bytes ++ ys ≡ raw ++ stream_of items
  each : Each IsItem items

abbrev signs_left : List ℕ → List Item → List Sign
signs_left raw items = map Raw raw ++ flat_map signs_of items

-- after an answer it stands further on, by the signs that the answer gives; where nothing is to be fed, it waits at the end alone
record Goes (u : DecoderView) (raw : List ℕ) (items : List Item) (ys : List ℕ) : Type 0 where
  raw_after : List ℕ
  items_after : List Item
  stands : Stands (after u) raw_after items_after ys
  signs : signs_left raw items ≡ signs_in (next_answer u) ++ signs_left raw_after items_after
  done : ys ≡ [] → next_answer u ≡ Waits → signs_left raw items ≡ []

-- ---- the answer where a line comes next

pub told_at_line : (u : DecoderView) → u.fault ≡ None → u.left ≡ 0 → next_answer u ≡ line_told u.place u.bytes
told_at_line u sound none = ap (unread_told u) sound ∙ (let is : (u.left == 0) ≡ true = rw none refl in rw is refl)

pub told_at_raw : (u : DecoderView) → u.fault ≡ None → (u.left == 0) ≡ false → next_answer u ≡ raw_told (take u.left u.bytes)
told_at_raw u sound some = ap (unread_told u) sound ∙ rw some refl

-- nothing happens
stays : (u : DecoderView) (raw : List ℕ) (items : List Item) (ys : List ℕ) → Stands u raw items ys → next_answer u ≡ Waits
    → (ys ≡ [] → signs_left raw items ≡ []) → Goes u raw items ys
stays u raw items ys st waits end = record {
  raw_after = raw;
  items_after = items;
  stands = subst (λ (v : DecoderView). Stands v raw items ys) (sym (ap (after_told u) waits)) st;
  signs = ap (λ t. signs_in t ++ signs_left raw items) (sym waits);
  done = λ none w. end none;
}

-- a stream that begins with an item: its text, the newline, its raw bytes, and the others
regroup : (i : Item) (rest : List Item) → stream_of (i ∷ rest) ≡ text_of i.message ++ newline ∷ (i.raw ++ stream_of rest)
regroup i rest = append_assoc (line_of i.message) i.raw (stream_of rest) ∙ append_assoc (text_of i.message) (newline ∷ []) (i.raw ++ stream_of rest)

at_end : (u : DecoderView) (ys : List ℕ) → Stands u [] [] ys → Goes u [] [] ys
at_end u ys st =
    let none : u.bytes ≡ [] = append_nil_left u.bytes ys st.bytes in
    let waits : next_answer u ≡ Waits = told_at_line u st.sound st.left ∙ ap (line_told u.place) none ∙ line_waits u.place [] tt (omega arith) in
    stays u [] [] ys st waits (λ _. refl)

-- its line is unfinished
at_open : (u : DecoderView) (i : Item) (rest : List Item) (ys f : List ℕ) → Stands u [] (i ∷ rest) ys → text_of i.message ≡ u.bytes ++ f → ys ≢ [] → Goes u [] (i ∷ rest) ys
at_open u i rest ys f st is more =
    let clear : IsClear u.bytes = clear_front u.bytes f (subst IsClear is (clear_text (text_of i.message) st.each.0.0.1)) in
    let short : length (text_of i.message) ≤ 8192 = read_short (text_of i.message) i.message st.each.0.0.0 in
    let both : length (u.bytes ++ f) ≡ length u.bytes + length f = length-append u.bytes f in
    let same : length (text_of i.message) ≡ length (u.bytes ++ f) = ap length is in
    let waits : next_answer u ≡ Waits = told_at_line u st.sound st.left ∙ line_waits u.place u.bytes clear (omega (arith, short, both, same)) in
    stays u [] (i ∷ rest) ys st waits (λ none. absurd (more none))

-- it is whole
at_line : (u : DecoderView) (i : Item) (rest : List Item) (ys b : List ℕ) → Stands u [] (i ∷ rest) ys → u.bytes ≡ text_of i.message ++ newline ∷ b → b ++ ys ≡ i.raw ++ stream_of rest → Goes u [] (i ∷ rest) ys
at_line u i rest ys b st is more =
    let clear = clear_text (text_of i.message) st.each.0.0.1 in
    let short = read_short (text_of i.message) i.message st.each.0.0.0 in
    let says : next_answer u ≡ Says i.message = told_at_line u st.sound st.left ∙ ap (line_told u.place) is ∙ line_comes u.place (text_of i.message) b i.message clear short st.each.0.0.0 in
    let gone : drop (length (line_of i.message)) u.bytes ≡ b =
    ap (drop (length (line_of i.message))) (is ∙ sym (append_assoc (text_of i.message) (newline ∷ []) b)) ∙ drop_at (line_of i.message) b (length (line_of i.message)) refl in
    let there : after u ≡ after_giving u (length (line_of i.message)) (raw_after i.message) = ap (after_told u) says in
    record {
      raw_after = i.raw;
      items_after = rest;
      stands = subst (λ (v : DecoderView). Stands v i.raw rest ys) (sym there) (record {
        sound = st.sound;
        left = sym st.each.0.1;
        bytes = ap (λ (xs : List ℕ). xs ++ ys) gone ∙ more;
        each = st.each.1;
      });
      signs = ap (λ t. signs_in t ++ signs_left i.raw rest) (sym says);
      done = λ none waits. absurd (let other : Says i.message ≡ Waits = sym says ∙ waits in cc);
    }

not_nil : (f : List ℕ) (b : ℕ) (rest : List ℕ) → f ++ b ∷ rest ≡ [] → ⊥
not_nil [] b rest e = cc
not_nil (x ∷ f) b rest e = cc

at_item : (u : DecoderView) (i : Item) (rest : List Item) (ys : List ℕ) → Stands u [] (i ∷ rest) ys → Goes u [] (i ∷ rest) ys
at_item u i rest ys st =
    elim (two_cuts u.bytes ys (text_of i.message) (newline ∷ (i.raw ++ stream_of rest)) (st.bytes ∙ regroup i rest)) [
      | inl short ↦ at_open u i rest ys short.0 st short.1 (λ none. not_nil short.0 newline (i.raw ++ stream_of rest) (sym short.2 ∙ none))
      | inr long ↦ go long.0 long.1 long.2
    ]
  where
    go : (b : List ℕ) → u.bytes ≡ text_of i.message ++ b → b ++ ys ≡ newline ∷ (i.raw ++ stream_of rest) → Goes u [] (i ∷ rest) ys
    go [] is e = at_open u i rest ys [] st (sym (append-nil (text_of i.message)) ∙ sym is ∙ sym (append-nil u.bytes)) (λ none. absurd (let other = sym e ∙ none in cc))
    go (c ∷ b) is e =
        let first : c ≡ newline = cc in
        let more : b ++ ys ≡ i.raw ++ stream_of rest = cc in
        at_line u i rest ys b st (is ∙ ap (λ (d : ℕ). text_of i.message ++ d ∷ b) first) more

-- ---- the answer where raw bytes come next

gives : (u : DecoderView) (raw : List ℕ) (items : List Item) (ys taken later : List ℕ) → Stands u raw items ys → raw ≡ taken ++ later → next_answer u ≡ Gives taken
    → drop (length taken) u.bytes ++ ys ≡ later ++ stream_of items → Goes u raw items ys
gives u raw items ys taken later st parts is more =
    let both : length (taken ++ later) ≡ length taken + length later = length-append taken later in
    let same : length raw ≡ length (taken ++ later) = ap length parts in
    let whole : u.left ≡ length raw = st.left in
    let there : after u ≡ after_giving u (length taken) (u.left - length taken) = ap (after_told u) is in
    record {
      raw_after = later;
      items_after = items;
      stands = subst (λ (v : DecoderView). Stands v later items ys) (sym there) (record {
        sound = st.sound;
        left = omega (arith, both, same, whole);
        bytes = more;
        each = st.each;
      });
      signs = ap (λ xs. map Raw xs ++ flat_map signs_of items) parts
          ∙ ap (λ zs. zs ++ flat_map signs_of items) (map-append Raw taken later)
          ∙ append_assoc (map Raw taken) (map Raw later) (flat_map signs_of items)
          ∙ ap (λ t. signs_in t ++ signs_left later items) (sym is);
      done = λ none waits. absurd (let other : Gives taken ≡ Waits = sym is ∙ waits in cc);
    }

pub raw_gives : (xs : List ℕ) → xs ≢ [] → raw_told xs ≡ Gives xs
raw_gives [] some = absurd (some refl)
raw_gives (x ∷ xs) some = refl

-- some are at hand, and all of these belong to it
at_some : (u : DecoderView) (r : ℕ) (raw : List ℕ) (items : List Item) (ys f : List ℕ) → Stands u (r ∷ raw) items ys → next_answer u ≡ raw_told u.bytes
    → r ∷ raw ≡ u.bytes ++ f → ys ≡ f ++ stream_of items → Goes u (r ∷ raw) items ys
at_some u r raw items ys f st is parts more = go u.bytes refl
  where
    go : (xs : List ℕ) → u.bytes ≡ xs → Goes u (r ∷ raw) items ys
    go [] none =
        let all : r ∷ raw ≡ f = parts ∙ ap (λ (xs : List ℕ). xs ++ f) none in
        stays u (r ∷ raw) items ys st (is ∙ ap raw_told none) (λ empty. absurd (let other : (r ∷ raw) ++ stream_of items ≡ [] = ap (λ (xs : List ℕ). xs ++ stream_of items) all ∙ sym more ∙ empty in cc))
    go (x ∷ xs) some =
        let gone : drop (length u.bytes) u.bytes ≡ [] = ap (drop (length u.bytes)) (sym (append-nil u.bytes)) ∙ drop_at u.bytes [] (length u.bytes) refl in
        gives u (r ∷ raw) items ys u.bytes f st parts (is ∙ raw_gives u.bytes (λ none. absurd (let other : x ∷ xs ≡ [] = sym some ∙ none in cc))) (ap (λ (zs : List ℕ). zs ++ ys) gone ∙ more)

-- all are at hand
at_all : (u : DecoderView) (r : ℕ) (raw : List ℕ) (items : List Item) (ys b : List ℕ) → Stands u (r ∷ raw) items ys → next_answer u ≡ raw_told (take u.left u.bytes)
    → u.bytes ≡ (r ∷ raw) ++ b → b ++ ys ≡ stream_of items → Goes u (r ∷ raw) items ys
at_all u r raw items ys b st is parts more =
    let taken : take u.left u.bytes ≡ r ∷ raw = ap (take u.left) parts ∙ take_at (r ∷ raw) b u.left (sym st.left) in
    let gone : drop (length (r ∷ raw)) u.bytes ≡ b = ap (drop (length (r ∷ raw))) parts ∙ drop_at (r ∷ raw) b (length (r ∷ raw)) refl in
    gives u (r ∷ raw) items ys (r ∷ raw) [] st (sym (append-nil (r ∷ raw))) (is ∙ ap raw_told taken) (ap (λ (zs : List ℕ). zs ++ ys) gone ∙ more)

at_raw : (u : DecoderView) (r : ℕ) (raw : List ℕ) (items : List Item) (ys : List ℕ) → Stands u (r ∷ raw) items ys → Goes u (r ∷ raw) items ys
at_raw u r raw items ys st =
    let count : u.left ≡ length (r ∷ raw) = st.left in
    let some : (u.left == 0) ≡ false = rw count (grind (arith, nat_tests)) in
    let is = told_at_raw u st.sound some in
    elim (two_cuts u.bytes ys (r ∷ raw) (stream_of items) st.bytes) [
      | inl short ↦
          let both : length (u.bytes ++ short.0) ≡ length u.bytes + length short.0 = length-append u.bytes short.0 in
          let same : length (r ∷ raw) ≡ length (u.bytes ++ short.0) = ap length short.1 in
          at_some u r raw items ys short.0 st (is ∙ ap raw_told (take_all u.left u.bytes (omega (arith, both, same, count)))) short.1 short.2
      | inr long ↦ at_all u r raw items ys long.0 st is long.1 long.2
    ]

goes : (u : DecoderView) (raw : List ℕ) (items : List Item) (ys : List ℕ) → Stands u raw items ys → Goes u raw items ys
goes u [] [] ys st = at_end u ys st
goes u [] (i ∷ rest) ys st = at_item u i rest ys st
goes u (r ∷ raw) items ys st = at_raw u r raw items ys st

-- ---- runs

-- what a run of events gives, from where a decoder stands
record Runs (u : DecoderView) (raw : List ℕ) (items : List Item) (more : List ℕ) (events : List DecoderEvent) : Type 0 where
  later : List Sign
  in_order : signs_left raw items ≡ flat_map signs_in (answers events u) ++ later
  whole : more ≡ [] → next_answer (after_all events u) ≡ Waits → later ≡ []

runs : (events : List DecoderEvent) (u : DecoderView) (raw : List ℕ) (items : List Item) (more : List ℕ) → Stands u raw items (fed_bytes events ++ more) → Runs u raw items more events
runs [] u raw items more st = record { later = signs_left raw items; in_order = refl; whole = (goes u raw items more st).done }
runs (Fed piece ∷ events) u raw items more st =
    let is : after_piece u piece ≡ after_piece_by u piece None = ap (after_piece_by u piece) st.sound in
    let now : Stands (after_piece u piece) raw items (fed_bytes events ++ more) = subst (λ (v : DecoderView). Stands v raw items (fed_bytes events ++ more)) (sym is) (record {
      sound = refl;
      left = st.left;
      bytes = append_assoc u.bytes piece (fed_bytes events ++ more) ∙ ap (λ (xs : List ℕ). u.bytes ++ xs) (sym (append_assoc piece (fed_bytes events) more)) ∙ st.bytes;
      each = st.each;
    }) in
    let r = runs events (after_piece u piece) raw items more now in
    record { later = r.later; in_order = r.in_order; whole = r.whole }
runs (Asked ∷ events) u raw items more st =
    let g = goes u raw items (fed_bytes events ++ more) st in
    let r = runs events (after u) g.raw_after g.items_after more g.stands in
    record {
      later = r.later;
      in_order = g.signs ∙ ap (λ zs. signs_in (next_answer u) ++ zs) r.in_order ∙ sym (append_assoc (signs_in (next_answer u)) (flat_map signs_in (answers events (after u))) r.later);
      whole = r.whole;
    }

-- **a stream is decoded, however it is cut into pieces and whenever it is asked for**
pub decodes : (items : List Item) (events : List DecoderEvent) (more : List ℕ) → Each IsItem items → fed_bytes events ++ more ≡ stream_of items → Decodes items more events
decodes items events more each is =
    let r = runs events start [] items more (record { sound = refl; left = refl; bytes = is; each = each }) in
    record { later = r.later; in_order = r.in_order; whole = r.whole }
