-- The tests of the rules decide what a run asks of an entry.
use Rattle.std.proofs.Common.{◌≡◌, ◌≢◌, ◌⊎◌, inl, inr, ℕ, ◌+◌, ◌<◌, ◌≤◌, ◌^◌, Bool, true, false, List, [], ◌∷◌, length, Option, Some, None, refl, sym, ap, subst, ◌∙◌}
use Rattle.std.specs.Prelude.{◌&&◌, ◌||◌, ◌==◌, not, nat_lt, nat_le, slice_get, is_none, is_some, bytes_eq}
use Rattle.std.specs.Bool.{Decides}
use Rattle.std.specs.List.{AllByRecursion, list_all, list_any}
use Rattle.std.specs.Ordering.{is_lt}
use Rattle.std.specs.declared.cmp.Ordering.TheVariants.{Less}
use Rattle.std.specs.List.Sorted.{IsStrictlySortedBy}
use Rattle.std.proofs.lemmas.Bool.{and_from, and_parts, eqb-true, false_from_ne_true, le-leb, leb-true, lt-ltb, ltb-true, or_left, or_cases, or_right, true≢false}
use Rattle.annex_base.specs.Bools.{same_bool}
use Rattle.annex_base.specs.ByteOrder.{text_cmp}
use Rattle.annex_base.specs.Lines.{newline}
use Rattle.annex_base.specs.Lists.{Each, Member}
use Rattle.annex_base.specs.declared.kinds.Word.{Word}
use Rattle.annex_base.proofs.Conditions.{bytes_eq-refl, bytes_eq-true, eqb_refl, same_bool_is, same_bool_refl}
use Rattle.annex_base.proofs.Lists.{Each-from_members, list_all-from_Each, list_all_member, list_any_found, list_any_member}
use Rattle.annex_base.proofs.Numbers.{is_lt_true}
use Rattle.annex_base.proofs.Options.{is_none_true}
use Rattle.annex_key.specs.KeyText.{IsKeyText}
use Rattle.annex_key.specs.View.{first_fault, size_part}
use Rattle.log_lines.specs.declared.entry.LogKind.TheVariants as logs
use Rattle.union_merge.specs.LineSet.{IsLine, has_line, is_empty}
use Rattle.run_data.specs.Files.{HasPath, file_path, kind_of}
use Rattle.run_data.specs.Repos.{fits_size}
use Rattle.run_data.specs.declared.entry.By.TheVariants.{Script}
use Rattle.run_data.specs.declared.entry.Entry.{Entry}
use Rattle.run_data.specs.declared.entry.EntryKind.{EntryKind}
use Rattle.run_data.specs.declared.entry.EntryKind.TheVariants.{Begin, Close, Compact, Crash, End, Fault, Gain, Log, Wait}
use Rattle.run_data.specs.declared.entry.FrameView.{FrameView}
use Rattle.run_data.specs.declared.entry.LogFile.{LogFile}
use Rattle.run_data.specs.declared.entry.LogFile.TheVariants.{Location, Of, Other}
use Rattle.run_data.specs.declared.job.Job.{Job}
use Rattle.run_data.specs.declared.job.JobKind.{JobKind}
use Rattle.run_data.specs.declared.job.Outcome.{Outcome}
use Rattle.node_model.specs.AnyTime.{IsPeer, MayBegin, MayCome, MayCompact, MayGain, MayLog, all_ends, close_at, closes_all, is_scripts, needs_peer}
use Rattle.node_model.specs.Ends.{EndName}
use Rattle.node_model.specs.Files.{compact_lines}
use Rattle.node_model.specs.Look.{Effect, as_told, entry_of}
use Rattle.node_model.specs.SessionStep.{is_filled}
use Rattle.node_model.specs.SetUp.{SetUp}
use Rattle.node_model.specs.State.{State}
use Rattle.node_model.specs.Step.{step}
use Rattle.run_model.specs.Frames.{FlyingFrame, MayTake, frames_sent, taken_count, way_of}
use Rattle.run_model.specs.Past.{now}
use Rattle.run_model.specs.Run.{ComesAfter, ComesAnyTime, ComesInOrder, FramesPart, IsSmall, IsStep, OnlyWaits, OwnPart, TimeIs, repo_number}
use Rattle.run_model.specs.States.{state_of}
use Rattle.run_model.specs.Words.{word_told}
use Rattle.run_laws.specs.Sound.{HasOneSlotEach}
use Rattle.step_judging.specs.Rules.{comes, effect_of, is_after, is_effect, is_next, is_nil, is_one_line, is_ordered, is_own, is_peer, is_rising, is_small, is_step, is_time, has_path, may_begin, may_come, may_compact, may_gain, may_log, may_take_next, only_waits, same_end, words_told}
use Rattle.step_judging.specs.Same.{same_body, same_effect, same_frames}
use Rattle.step_judging.specs.Telling.{first_line, is_end, look_of}
use Rattle.step_judging.proofs.OneLook.{part_small, step_again}
use Rattle.step_judging.proofs.SameIs.{body_tells, effect_itself, effect_seen, frames_tell}
use Rattle.std.specs.Option.{option_map}

-- ---- tests

dec_lt : (a b : ℕ) → Decides (nat_lt a b) (a < b)
dec_lt a b = (λ e. ltb-true a b e, λ h. lt-ltb a b h)

dec_le : (a b : ℕ) → Decides (nat_le a b) (a ≤ b)
dec_le a b = (λ e. leb-true a b e, λ h. le-leb a b h)

dec_eq : (a b : ℕ) → Decides (a == b) (a ≡ b)
dec_eq a b = (λ e. eqb-true a b e, λ h. subst (λ (c : ℕ). (a == c) ≡ true) h (eqb_refl a))

dec_or : {P Q : Type 0} (b c : Bool) → Decides b P → Decides c Q → Decides (b || c) (P ⊎ Q)
dec_or b c p q = (
  λ e. elim (or_cases b c e) [ inl x ↦ inl (p.0 x) | inr x ↦ inr (q.0 x) ],
  λ h. elim h [ inl x ↦ or_left b c (p.1 x) | inr x ↦ or_right b c (q.1 x) ],
)

dec_and : {P Q : Type 0} (b c : Bool) → Decides b P → Decides c Q → Decides (b && c) (P × Q)
dec_and b c p q = (λ e. let h = and_parts b c e in (p.0 h.0, q.0 h.1), λ h. and_from b c (p.1 h.0) (q.1 h.1))

not_true : (b : Bool) → not b ≡ true → b ≡ false
not_true true e = absurd (cc)
not_true false e = refl

true_not : (b : Bool) → b ≡ false → not b ≡ true
true_not true e = absurd (cc)
true_not false e = refl

dec_false : (b : Bool) → Decides (not b) (b ≡ false)
dec_false b = (λ e. not_true b e, λ e. true_not b e)

dec_true : (b : Bool) → Decides b (b ≡ true)
dec_true b = (λ e. e, λ e. e)

dec_not : {P : Type 0} (b : Bool) → Decides b P → Decides (not b) (P → ⊥)
dec_not b p = (λ e h. true≢false (sym (p.1 h) ∙ not_true b e), λ h. true_not b (false_from_ne_true b (λ e. h (p.0 e))))

dec_none : {X : Type 0} (o : Option X) → Decides (is_none o) (o ≡ None)
dec_none o = (λ e. is_none_true o e, λ e. rw e refl)

dec_some : {X : Type 0} (o : Option X) → Decides (is_some o) (o ≢ None)
dec_some None = (λ e. absurd (cc), λ h. absurd (h refl))
dec_some (Some x) = (λ e h. cc, λ h. refl)

dec_nil : {X : Type 0} (xs : List X) → Decides (is_nil xs) (xs ≡ [])
dec_nil [] = (λ e. refl, λ e. refl)
dec_nil (x ∷ xs) = (λ e. absurd (cc), λ h. absurd (cc))

-- ---- 1: order

after_holds : (past : List Entry) (e : Entry) → Decides (is_after past e) (ComesAfter past e)
after_holds [] e = (λ h. tt, λ h. refl)
after_holds (f ∷ past) e =
    let numbers = dec_and (f.count == e.count) (nat_lt (repo_number f.repo) (repo_number e.repo)) (dec_eq f.count e.count) (dec_lt (repo_number f.repo) (repo_number e.repo)) in
    let counts = dec_or (nat_lt f.count e.count) ((f.count == e.count) && nat_lt (repo_number f.repo) (repo_number e.repo)) (dec_lt f.count e.count) numbers in
    dec_or (nat_lt f.time e.time) (nat_lt f.count e.count || ((f.count == e.count) && nat_lt (repo_number f.repo) (repo_number e.repo))) (dec_lt f.time e.time) counts

time_holds : (before : ℕ) (e : Entry) (kind : EntryKind) (repo : Option ℕ) → Decides (is_time before e kind repo) (TimeIs before e kind repo)
time_holds before e (Wait ms) None = dec_eq e.time (before + ms)
time_holds before e kind (Some r) = dec_eq e.time before
time_holds before e kind None = (λ h. absurd (cc), λ h. absurd h)

small_holds : (kind : EntryKind) → Decides (is_small kind) (IsSmall kind)
small_holds (Gain by size key) = dec_lt size (2 ^ 62)
small_holds (Crash clock) = dec_le clock 100000000000
small_holds kind = (λ h. tt, λ h. refl)

module _ (past : List Entry) (e : Entry) where
  abbrev after : Bool
  after = is_after past e

  abbrev timed : Bool
  timed = is_time (now past) e e.kind e.repo

  abbrev early : Bool
  early = nat_le e.time 1000000000000

  abbrev counted : Bool
  counted = nat_lt e.count (2 ^ 62)

  order_to : is_ordered past e ≡ true → ComesInOrder past e
  order_to h =
      let one = and_parts (after && timed && early && counted) (is_small e.kind) h in
      let two = and_parts (after && timed && early) counted one.0 in
      let three = and_parts (after && timed) early two.0 in
      let four = and_parts after timed three.0 in
      record {
        after = (after_holds past e).0 four.0;
        time_is = (time_holds (now past) e e.kind e.repo).0 four.1;
        in_time = leb-true e.time 1000000000000 three.1;
        counted = ltb-true e.count (2 ^ 62) two.1;
        small = (small_holds e.kind).0 one.1;
      }

  order_from : ComesInOrder past e → is_ordered past e ≡ true
  order_from c =
      and_from (after && timed && early && counted) (is_small e.kind)
      (and_from (after && timed && early) counted
      (and_from (after && timed) early
      (and_from after timed ((after_holds past e).1 c.after) ((time_holds (now past) e e.kind e.repo).1 c.time_is)) (le-leb e.time 1000000000000 c.in_time))
      (lt-ltb e.count (2 ^ 62) c.counted)) ((small_holds e.kind).1 c.small)

  pub order_holds : Decides (is_ordered past e) (ComesInOrder past e)
  order_holds = (order_to, order_from)

-- ---- 3: what may come at any point

peer_holds : (s : SetUp) (kind : JobKind) (peer : Option ℕ) → Decides (is_peer s kind peer) (IsPeer s kind peer)
peer_holds s kind None = dec_false (needs_peer kind)
peer_holds s kind (Some peer) = dec_and (nat_lt peer (length s.repos)) (not (peer == s.number)) (dec_lt peer (length s.repos)) (dec_not (peer == s.number) (dec_eq peer s.number))

begin_holds : (s : SetUp) (st : State) (job : ℕ) (what : Job) → Decides (may_begin s st job what) (MayBegin s st job what)
begin_holds s st job what = (to, from)
  where
    to : may_begin s st job what ≡ true → MayBegin s st job what
    to h =
        let one = and_parts ((job == st.begun + 1) && nat_lt (length st.works) 4 && is_peer s what.kind what.peer) (is_none (first_fault what.key)) h in
        let two = and_parts ((job == st.begun + 1) && nat_lt (length st.works) 4) (is_peer s what.kind what.peer) one.0 in
        let three = and_parts (job == st.begun + 1) (nat_lt (length st.works) 4) two.0 in
        record {
          number_is = eqb-true job (st.begun + 1) three.0;
          slot_free = ltb-true (length st.works) 4 three.1;
          peer = (peer_holds s what.kind what.peer).0 two.1;
          valid = is_none_true (first_fault what.key) one.1;
        }

    from : MayBegin s st job what → may_begin s st job what ≡ true
    from c =
        and_from ((job == st.begun + 1) && nat_lt (length st.works) 4 && is_peer s what.kind what.peer) (is_none (first_fault what.key))
        (and_from ((job == st.begun + 1) && nat_lt (length st.works) 4) (is_peer s what.kind what.peer)
        (and_from (job == st.begun + 1) (nat_lt (length st.works) 4) ((dec_eq job (st.begun + 1)).1 c.number_is) (lt-ltb (length st.works) 4 c.slot_free))
        ((peer_holds s what.kind what.peer).1 c.peer)) ((dec_none (first_fault what.key)).1 c.valid)

gain_holds : (s : SetUp) (st : State) (size : ℕ) (key : List ℕ) → Decides (may_gain s st size key) (MayGain s st size key)
gain_holds s st size key = (to, from)
  where
    to : may_gain s st size key ≡ true → MayGain s st size key
    to h =
        let one = and_parts (not (st.present key) && not (is_filled s st key) && fits_size (size_part key) size) (nat_lt size (2 ^ 62)) h in
        let two = and_parts (not (st.present key) && not (is_filled s st key)) (fits_size (size_part key) size) one.0 in
        let three = and_parts (not (st.present key)) (not (is_filled s st key)) two.0 in
        record { absent = not_true (st.present key) three.0; unfilled = not_true (is_filled s st key) three.1; fits = two.1; small = ltb-true size (2 ^ 62) one.1 }

    from : MayGain s st size key → may_gain s st size key ≡ true
    from c =
        and_from (not (st.present key) && not (is_filled s st key) && fits_size (size_part key) size) (nat_lt size (2 ^ 62))
        (and_from (not (st.present key) && not (is_filled s st key)) (fits_size (size_part key) size)
        (and_from (not (st.present key)) (not (is_filled s st key)) (true_not (st.present key) c.absent) (true_not (is_filled s st key) c.unfilled)) c.fits)
        (lt-ltb size (2 ^ 62) c.small)

-- ---- lines

empty_holds : (line : List ℕ) → Decides (not (is_empty line)) (line ≢ [])
empty_holds [] = (λ e. absurd (cc), λ h. absurd (h refl))
empty_holds (b ∷ bs) = (λ e h. cc, λ h. refl)

single_holds : (line : List ℕ) → Decides (list_all (λ b. not (b == newline)) line) (Member newline line → ⊥)
single_holds line = (
  λ e among. true≢false (sym (list_all_member (λ b. not (b == newline)) line newline e among)),
  λ h. list_all-from_Each (λ b. not (b == newline)) line (Each-from_members (λ b. not (b == newline) ≡ true) line (λ b among. (dec_not (b == newline) (dec_eq b newline)).1 (λ is. h (subst (λ (c : ℕ). Member c line) is among)))),
)

line_holds : (line : List ℕ) → Decides (is_one_line line) (IsLine line)
line_holds line = (
  λ e. let h = and_parts (not (is_empty line)) (list_all (λ b. not (b == newline)) line) e in record { some = (empty_holds line).0 h.0; single = (single_holds line).0 h.1 },
  λ c. and_from (not (is_empty line)) (list_all (λ b. not (b == newline)) line) ((empty_holds line).1 c.some) ((single_holds line).1 c.single),
)

lines_hold : (lines : List (List ℕ)) → Decides (list_all is_one_line lines) (Each IsLine lines)
lines_hold [] = (λ e. tt, λ h. refl)
lines_hold (x ∷ xs) = dec_and (is_one_line x) (list_all is_one_line xs) (line_holds x) (lines_hold xs)

below_holds : (x : List ℕ) (xs : List (List ℕ)) → Decides (list_all (λ y. is_lt (text_cmp x y)) xs) (AllByRecursion (λ y. text_cmp x y ≡ Less) xs)
below_holds x [] = (λ e. tt, λ h. refl)
below_holds x (y ∷ ys) = dec_and (is_lt (text_cmp x y)) (list_all (λ z. is_lt (text_cmp x z)) ys) (λ e. is_lt_true (text_cmp x y) e, λ e. rw e refl) (below_holds x ys)

rising_holds : (lines : List (List ℕ)) → Decides (is_rising lines) (IsStrictlySortedBy text_cmp lines)
unfolding IsStrictlySortedBy
rising_holds [] = (λ e. tt, λ h. refl)
rising_holds (x ∷ xs) = dec_and (list_all (λ y. is_lt (text_cmp x y)) xs) (is_rising xs) (below_holds x xs) (rising_holds xs)

has_holds : (lines : List (List ℕ)) (line : List ℕ) → Decides (has_line lines line) (Member line lines)
has_holds lines line = (
  λ e. let w = list_any_found (bytes_eq line) lines e in subst (λ (x : List ℕ). Member x lines) (sym (bytes_eq-true line w.0 w.2)) w.1,
  λ among. list_any_member (bytes_eq line) lines line among (bytes_eq-refl line),
)

new_holds : (was lines : List (List ℕ)) → Decides (list_all (λ line. not (has_line was line)) lines) (Each (λ line. Member line was → ⊥) lines)
new_holds was [] = (λ e. tt, λ h. refl)
new_holds was (x ∷ xs) = dec_and (not (has_line was x)) (list_all (λ line. not (has_line was line)) xs) (dec_not (has_line was x) (has_holds was x)) (new_holds was xs)

path_holds : ((key : List ℕ) → Decides (is_none (first_fault key)) (IsKeyText key)) → (file : LogFile) → Decides (has_path file) (HasPath file)
path_holds keys (Location key) = keys key
path_holds keys (Of logs.Location) = (λ e. absurd (cc), λ h. absurd (h refl))
path_holds keys (Of logs.Trust) = (λ e h. cc, λ h. refl)
path_holds keys (Of logs.Uuid) = (λ e h. cc, λ h. refl)
path_holds keys (Of logs.Group) = (λ e h. cc, λ h. refl)
path_holds keys (Of logs.Preferred) = (λ e h. cc, λ h. refl)
path_holds keys (Of logs.Required) = (λ e h. cc, λ h. refl)
path_holds keys (Of logs.GroupPreferred) = (λ e h. cc, λ h. refl)
path_holds keys (Of logs.Numcopies) = (λ e h. cc, λ h. refl)
path_holds keys (Of logs.Mincopies) = (λ e h. cc, λ h. refl)
path_holds keys (Of logs.NumcopiesPath) = (λ e h. cc, λ h. refl)
path_holds keys (Of logs.MincopiesPath) = (λ e h. cc, λ h. refl)
path_holds keys (Other name) = line_holds name

abbrev end_of : ℕ → ℕ → Bool → EndName
end_of peer slot client = record { peer = peer; slot = slot; client = client }

end_holds : (s : SetUp) (a : EndName) → Decides (list_any (same_end a) (all_ends s)) (Member a (all_ends s))
end_holds s a = (
  λ e.
      let w = list_any_found (same_end a) (all_ends s) e in
      let b = w.0 in
      let h = and_parts ((a.peer == b.peer) && (a.slot == b.slot)) (same_bool a.client b.client) w.2 in
      let i = and_parts (a.peer == b.peer) (a.slot == b.slot) h.0 in
      let is : a ≡ b = ap (λ x. end_of x a.slot a.client) (eqb-true a.peer b.peer i.0) ∙ ap (λ x. end_of b.peer x a.client) (eqb-true a.slot b.slot i.1) ∙ ap (λ x. end_of b.peer b.slot x) (same_bool_is a.client b.client h.1) in
      subst (λ (c : EndName). Member c (all_ends s)) (sym is) w.1,
  λ among. list_any_member (same_end a) (all_ends s) a among
      (and_from ((a.peer == a.peer) && (a.slot == a.slot)) (same_bool a.client a.client) (and_from (a.peer == a.peer) (a.slot == a.slot) (eqb_refl a.peer) (eqb_refl a.slot)) (same_bool_refl a.client)),
)

module _ (keys : (key : List ℕ) → Decides (is_none (first_fault key)) (IsKeyText key)) where
  log_holds : (s : SetUp) (st : State) (file : LogFile) (lines : List (List ℕ)) → Decides (may_log st file lines) (MayLog s st file lines)
  log_holds s st file lines = (to, from)
    where
      to : may_log st file lines ≡ true → MayLog s st file lines
      to h =
          let one = and_parts (has_path file && is_some (kind_of file) && is_rising lines && list_all is_one_line lines) (list_all (λ line. not (has_line (st.lines (file_path file)) line)) lines) h in
          let two = and_parts (has_path file && is_some (kind_of file) && is_rising lines) (list_all is_one_line lines) one.0 in
          let three = and_parts (has_path file && is_some (kind_of file)) (is_rising lines) two.0 in
          let four = and_parts (has_path file) (is_some (kind_of file)) three.0 in
          record {
            path = (path_holds keys file).0 four.0;
            known = (dec_some (kind_of file)).0 four.1;
            set = record { sorted = (rising_holds lines).0 three.1; each = (lines_hold lines).0 two.1 };
            new = (new_holds (st.lines (file_path file)) lines).0 one.1;
          }

      from : MayLog s st file lines → may_log st file lines ≡ true
      from c =
          and_from (has_path file && is_some (kind_of file) && is_rising lines && list_all is_one_line lines) (list_all (λ line. not (has_line (st.lines (file_path file)) line)) lines)
          (and_from (has_path file && is_some (kind_of file) && is_rising lines) (list_all is_one_line lines)
          (and_from (has_path file && is_some (kind_of file)) (is_rising lines)
          (and_from (has_path file) (is_some (kind_of file)) ((path_holds keys file).1 c.path) ((dec_some (kind_of file)).1 c.known)) ((rising_holds lines).1 c.set.sorted))
          ((lines_hold lines).1 c.set.each)) ((new_holds (st.lines (file_path file)) lines).1 c.new)

  compact_holds : (s : SetUp) (st : State) (file : LogFile) → Decides (may_compact st file) (MayCompact s st file)
  compact_holds s st file =
      let was = st.lines (file_path file) in
      let less = dec_lt (length (compact_lines (kind_of file) was)) (length was) in
      (λ e. record { shrinks = less.0 e }, λ c. less.1 c.shrinks)

  -- three and four tests
  three : {P Q R : Type 0} (b c d : Bool) → Decides b P → Decides c Q → Decides d R → Decides (b && c && d) (P × Q × R)
  three b c d p q r = (
    λ e. let h = and_parts (b && c) d e in let i = and_parts b c h.0 in (p.0 i.0, q.0 i.1, r.0 h.1),
    λ h. and_from (b && c) d (and_from b c (p.1 h.0) (q.1 h.1)) (r.1 h.2),
  )

  four : {P Q R S : Type 0} (b c d f : Bool) → Decides b P → Decides c Q → Decides d R → Decides f S → Decides (b && c && d && f) (P × Q × R × S)
  four b c d f p q r s = (
    λ e. let g = and_parts (b && c && d) f e in let h = and_parts (b && c) d g.0 in let i = and_parts b c h.0 in (p.0 i.0, q.0 i.1, r.0 h.1, s.0 g.1),
    λ h. and_from (b && c && d) f (and_from (b && c) d (and_from b c (p.1 h.0) (q.1 h.1)) (r.1 h.2)) (s.1 h.3),
  )

  frames_hold : (xs ys : List FrameView) → Decides (same_frames xs ys) (xs ≡ ys)
  frames_hold xs ys = (λ e. frames_tell.is xs ys e, λ e. subst (λ (zs : List FrameView). same_frames xs zs ≡ true) e (frames_tell.itself xs))

  come_holds : (s : SetUp) (st : State) (lines : List (List ℕ)) (sent : List FrameView) (kind : EntryKind) → Decides (may_come s st lines sent kind) (MayCome s st lines sent kind)
  come_holds s st lines sent (Begin job what) = three (may_begin s st job what) (is_nil lines) (is_nil sent) (begin_holds s st job what) (dec_nil lines) (dec_nil sent)
  come_holds s st lines sent (Gain Script size key) = three (may_gain s st size key) (is_nil lines) (is_nil sent) (gain_holds s st size key) (dec_nil lines) (dec_nil sent)
  come_holds s st lines sent (Log file) = dec_and (may_log st file lines) (is_nil sent) (log_holds s st file lines) (dec_nil sent)
  come_holds s st lines sent (Compact file) = three (may_compact st file) (is_nil lines) (is_nil sent) (compact_holds s st file) (dec_nil lines) (dec_nil sent)
  come_holds s st lines sent (Fault call Script) = three (is_scripts call) (is_nil lines) (is_nil sent) (dec_true (is_scripts call)) (dec_nil lines) (dec_nil sent)
  come_holds s st lines sent (Close peer slot client) =
      let a : EndName = record { peer = peer; slot = slot; client = client } in
      four (list_any (same_end a) (all_ends s)) (st.ends a).opened (is_nil lines) (same_frames sent (close_at s st a))
      (end_holds s a) (dec_true (st.ends a).opened) (dec_nil lines) (frames_hold sent (close_at s st a))
  come_holds s st lines sent (Crash clock) = dec_and (is_nil lines) (same_frames sent (closes_all s st)) (dec_nil lines) (frames_hold sent (closes_all s st))
  come_holds s st lines sent kind = (λ e. absurd (cc), λ h. absurd h)

  -- ---- 3: the own part

  any_holds : (s : SetUp) (past : List Entry) (e : Entry) → Decides (comes s (state_of s past) e) (ComesAnyTime s past e)
  any_holds s past e = (
    λ h. let i = and_parts (is_none e.taken) (may_come s (state_of s past) e.lines e.sent e.kind) h in
        record { may = (come_holds s (state_of s past) e.lines e.sent e.kind).0 i.1; takes_none = is_none_true e.taken i.0 },
    λ c. and_from (is_none e.taken) (may_come s (state_of s past) e.lines e.sent e.kind) ((dec_none e.taken).1 c.takes_none) ((come_holds s (state_of s past) e.lines e.sent e.kind).1 c.may),
  )

  module _ (s : SetUp) (past : List Entry) (e : Entry) (mine : e.repo ≡ Some s.number) where
    abbrev st : State
    st = state_of s past

    abbrev entry_at : Option ℕ → Entry
    entry_at r = record { time = e.time; count = e.count; repo = r; kind = e.kind; taken = e.taken; sent = e.sent; lines = e.lines }

    -- an entry that passes is the step
    passes : (words : ℕ → Option Word) → is_step s st words e ≡ true → IsStep s past words e
    passes words h = go (step s st (look_of st words e)) refl h
      where
        go : (o : Option Effect) → step s st (look_of st words e) ≡ o → is_effect o (effect_of e) ≡ true → IsStep s past words e
        go None is g = absurd (cc)
        go (Some m) is g =
            let same : as_told m ≡ effect_of e = effect_seen m (effect_of e) g in
            record {
              look = look_of st words e;
              made = m;
              makes = is;
              is = ap (λ (r : Option ℕ). entry_at r) mine ∙ ap (entry_of s.number (look_of st words e)) (sym same);
              words_are = refl;
              part_small = part_small e.kind (first_line e.sent);
            }

    -- the step passes, with words that are the same at a job's end
    step_passes : HasOneSlotEach st → (words told : ℕ → Option Word) → (is_end e.kind ≡ true → told ≡ words) → IsStep s past words e → is_step s st told e ≡ true
    step_passes slots words told same x =
        let made_is : effect_of e ≡ as_told x.made = ap effect_of x.is in
        let same' : is_end x.made.kind ≡ true → told ≡ x.look.words = λ h. same (subst (λ (m : Effect). is_end m.kind ≡ true) (sym made_is) h) ∙ sym x.words_are in
        let again : option_map as_told (step s st (look_of st told (entry_of s.number x.look x.made))) ≡ Some (as_told x.made) = step_again s st x.look told x.made x.part_small same' slots x.makes in
        let here : option_map as_told (step s st (look_of st told e)) ≡ Some (as_told x.made) = subst (λ (y : Entry). option_map as_told (step s st (look_of st told y)) ≡ Some (as_told x.made)) (sym x.is) again in
        go made_is (step s st (look_of st told e)) here
      where
        go : effect_of e ≡ as_told x.made → (o : Option Effect) → option_map as_told o ≡ Some (as_told x.made) → is_effect o (effect_of e) ≡ true
        go made_is None h = absurd (cc)
        go made_is (Some n) h =
            let same' : as_told n ≡ as_told x.made = cc in
            subst (λ (z : Effect). same_effect z (effect_of e) ≡ true) (sym same') (subst (λ (z : Effect). same_effect (as_told x.made) z ≡ true) (sym made_is) (effect_itself x.made))

    pub own_passes : HasOneSlotEach st → (words told : ℕ → Option Word) → (is_end e.kind ≡ true → told ≡ words) → OwnPart s past words e → is_own s st told e ≡ true
    own_passes slots words told same x =
        and_from (nat_lt s.number (length s.repos)) (is_step s st told e || comes s st e) (lt-ltb s.number (length s.repos) x.known)
        (elim (x.does) [
          | inl y ↦ or_left (is_step s st told e) (comes s st e) (step_passes slots words told same y)
          | inr y ↦ or_right (is_step s st told e) (comes s st e) ((any_holds s past e).1 y)
        ])

    pub own_is : (words : ℕ → Option Word) → is_own s st words e ≡ true → OwnPart s past words e
    own_is words h =
        let i = and_parts (nat_lt s.number (length s.repos)) (is_step s st words e || comes s st e) h in
        record {
          known = ltb-true s.number (length s.repos) i.0;
          does = elim (or_cases (is_step s st words e) (comes s st e) i.1) [ inl x ↦ inl (passes words x) | inr x ↦ inr ((any_holds s past e).0 x) ];
        }

pub waits_hold : (e : Entry) → Decides (only_waits e) (OnlyWaits e)
waits_hold e = (
  λ h. let i = and_parts (is_none e.taken && is_nil e.sent) (is_nil e.lines) h in let j = and_parts (is_none e.taken) (is_nil e.sent) i.0 in
      record { takes_none = is_none_true e.taken j.0; sends_none = (dec_nil e.sent).0 j.1; no_lines = (dec_nil e.lines).0 i.1 },
  λ c. and_from (is_none e.taken && is_nil e.sent) (is_nil e.lines) (and_from (is_none e.taken) (is_nil e.sent) ((dec_none e.taken).1 c.takes_none) ((dec_nil e.sent).1 c.sends_none)) ((dec_nil e.lines).1 c.no_lines),
)

-- ---- 4: the frames

next_holds : (o : Option FlyingFrame) (n : ℕ) (f : FrameView) → is_next o n f ≡ true → (x : FlyingFrame) × (o ≡ Some x) × (f.seq ≡ n + 1) × (x.frame.body ≡ f.body)
next_holds None n f h = absurd (cc)
next_holds (Some x) n f h =
    let i = and_parts (f.seq == n + 1) (same_body x.frame.body f.body) h in (x, refl, eqb-true f.seq (n + 1) i.0, body_tells.is x.frame.body f.body i.1)

may_take_is : (past : List Entry) (r : ℕ) (f : FrameView) → may_take_next past r (Some f) ≡ true → MayTake past (way_of r f) f
may_take_is past r f h =
    let x = next_holds (slice_get (frames_sent past (way_of r f)) (taken_count past (way_of r f))) (taken_count past (way_of r f)) f h in
    record { it = x.0; next = x.1; seq_is = x.2; body_is = x.3 }

pub frame_holds : (past : List Entry) (r : ℕ) (o : Option FrameView) → may_take_next past r o ≡ true → (f : FrameView) → o ≡ Some f → MayTake past (way_of r f) f
frame_holds past r None h f e = absurd (cc)
frame_holds past r (Some g) h f e = let same : g ≡ f = cc in may_take_is past r f (subst (λ (x : FrameView). may_take_next past r (Some x) ≡ true) same h)

pub frame_passes : (past : List Entry) (r : ℕ) (o : Option FrameView) → ((f : FrameView) → o ≡ Some f → MayTake past (way_of r f) f) → may_take_next past r o ≡ true
frame_passes past r None takes = refl
frame_passes past r (Some f) takes =
    let m = takes f refl in
    let n = taken_count past (way_of r f) in
    ap (λ (x : Option FlyingFrame). is_next x n f) m.next
    ∙ and_from (f.seq == n + 1) (same_body m.it.frame.body f.body) ((dec_eq f.seq (n + 1)).1 m.seq_is) (subst (λ b. same_body m.it.frame.body b ≡ true) m.body_is (body_tells.itself m.it.frame.body))

-- ---- words

end_is : (kind : EntryKind) → is_end kind ≡ true → (j : ℕ) × (outcome : Outcome) × (kind ≡ End j outcome)
end_is (End j outcome) e = (j, outcome, refl)
end_is kind e = absurd (cc)

-- the words that are told are those of the frames' part
pub words_same : (past : List Entry) (r : ℕ) (words : ℕ → Option Word) (e : Entry) → FramesPart past r words e → is_end e.kind ≡ true → words_told past r e.kind ≡ words
words_same past r words e part h = λ i c. told c i
  where
    told : (c : ℕ) → words_told past r e.kind c ≡ words c
    told c = let k = end_is e.kind h in ap (λ (x : EntryKind). words_told past r x c) k.2 ∙ sym (part.tells k.0 k.1 k.2 c)

pub words_tell : (past : List Entry) (r : ℕ) (e : Entry) (j : ℕ) (outcome : Outcome) → e.kind ≡ End j outcome → (c : ℕ) → words_told past r e.kind c ≡ word_told past r j c
words_tell past r e j outcome is c = ap (λ (x : EntryKind). words_told past r x c) is
