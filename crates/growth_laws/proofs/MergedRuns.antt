-- Histories that were kept one of each repository, merged in order of time, count and number behind the run that they extend, are a run.
use Rattle.std.proofs.Common.{◌≡◌, ℕ, zero, suc, ◌+◌, ◌<◌, ◌≤◌, Bool, true, false, cond, ◌⊎◌, inl, inr, List, [], ◌∷◌, ◌++◌, length, Option, Some, None, refl, sym, ap, ◌∙◌, subst, arith, append-nil, length-append}
use Rattle.std.proofs.lemmas.List.{length-reverse, reverse-append, reverse-reverse}
use Rattle.std.proofs.lemmas.List.Elements.{filter-append}
use Rattle.std.specs.Prelude.{◌&&◌, filter, find, map, nat_le, nat_lt, reverse, slice_get, if◌then◌else◌, ◌==◌}
use Rattle.std.specs.List.{fold}
use Rattle.annex_base.specs.Lists.{Each}
use Rattle.annex_base.specs.declared.kinds.Word.{Word}
use Rattle.annex_base.proofs.Lists.{Each-both, Each-reverse, Each-right, slice_get-left, slice_get-map_some}
use Rattle.annex_base.proofs.Conditions.{eqb_refl}
use Rattle.annex_key.specs.Tree.{Entries, paths_of, with_key}
use Rattle.run_data.specs.declared.entry.Entry.{Entry}
use Rattle.run_data.specs.declared.entry.EntryKind.{EntryKind}
use Rattle.run_data.specs.declared.entry.EntryKind.TheVariants.{Begin}
use Rattle.run_data.specs.declared.entry.FrameView.{FrameView}
use Rattle.run_data.specs.declared.run.Run.{Run}
use Rattle.run_data.specs.declared.run.TreeMark.{TreeMark}
use Rattle.run_model.specs.Past.{Always, Occurs, is_of, now}
use Rattle.node_model.specs.Rows.{option_is}
use Rattle.run_model.specs.Frames.{FlyingFrame, Way, flying_frame, on_way, sender_of, frames_sent, taken_count, taker_of, takes, way_of}
use Rattle.node_model.specs.Slots.{job_of}
use Rattle.past_facts.proofs.OwnPasts.{Bare, bare, mine, mine_occurs, own_by, own_sent}
use Rattle.node_model.specs.SetUp.{SetUp}
use Rattle.run_model.specs.States.{works}
use Rattle.run_model.specs.Words.{awaits_of, word_of, word_of_kind, word_taken, word_told}
use Rattle.run_model.specs.Run.{FramesPart, IsRun, MayBe, OnlyWaits, ComesInOrder, OwnPart, RunPast, RunStep, paths_at, paths_begun, set_up, tree_at}
use Rattle.growth_laws.specs.Merged.{AreFirstLetters, IsMerge, IsHistoryStep, Letter, MayMerge, StandInOrder, TakesNext, earlier, history, letter_of, letters, merge_all, merged_run, new_of, paths_with, set_up_with, stamp_of, stands_before, word_got, word_in, word_read}
use Rattle.past_facts.proofs.OwnState.{state_own}
use Rattle.growth_laws.proofs.OwnParts.{part_whole}
use Rattle.step_facts.proofs.Flights.{always_before, get_append, occurs_always}
use Rattle.past_facts.proofs.Told.{taker_way}
use Rattle.growth_laws.proofs.MergedLists.{IsNews, is_merge, never_earlier, earlier_trans}
use Rattle.growth_laws.proofs.MergedOrder.{IsNew, each_by_own, follow_new, follow_rises, new_ordered, occurs_before, reverse_cons, rising_falls}
use Rattle.step_facts.proofs.Plain.{member_mapped, option_same}
use Rattle.annex_base.proofs.Options.{some_none}
use Rattle.std.proofs.lemmas.Option.{same_Some}

-- ---- lists and pasts

pub always_by : (P : List Entry → Entry → Type 0) (past : List Entry) → ((e : Entry) (before : List Entry) → Occurs past e before → P before e) → Always P past
always_by P [] h = tt
always_by P (e ∷ past) h = (h e past (inl (refl, refl)), always_by P past (λ x before o. h x before (inr o)))

pub always_of : (s : ℕ → SetUp) (P : List Entry → Entry → Type 0) → ((past : List Entry) (e : Entry) → RunStep s past e → P past e) → (past : List Entry) → RunPast s past → Always P past
always_of s P f [] h = tt
always_of s P f (e ∷ past) h = (f past e h.0, always_of s P f past h.1)

pub always_run : (s : ℕ → SetUp) (past : List Entry) → Always (RunStep s) past → RunPast s past
always_run s [] h = tt
always_run s (e ∷ past) h = (h.0, always_run s past h.1)

pub filter_reverse : {X : Type 0} (p : X → Bool) (xs : List X) → filter p (reverse xs) ≡ reverse (filter p xs)
filter_reverse p [] = refl
filter_reverse p (x ∷ xs) = ap (filter p) (reverse_cons x xs) ∙ filter-append p (reverse xs) (x ∷ []) ∙ ap (λ ys. ys ++ filter p (x ∷ [])) (filter_reverse p xs) ∙ go (p x)
  where
    go : (b : Bool) → reverse (filter p xs) ++ cond b (x ∷ []) [] ≡ reverse (cond b (x ∷ filter p xs) (filter p xs))
    go true = sym (reverse_cons x (filter p xs))
    go false = append-nil (reverse (filter p xs))

-- ---- the set-up

-- the tree after all of its marks
tree_same : (marks : List TreeMark) (n place : ℕ) → Each (λ m. m.place ≤ n) marks → n ≤ place → tree_at marks place ≡ tree_at marks n
tree_same marks n place h l = from [] marks h
  where
    from : (tree : Entries) (ms : List TreeMark) → Each (λ m. m.place ≤ n) ms
        → fold (λ t m. if nat_le m.place place then with_key t m.path m.key else t) tree ms ≡ fold (λ t m. if nat_le m.place n then with_key t m.path m.key else t) tree ms
    from tree [] h = refl
    from tree (m ∷ ms) h =
        let a : nat_le m.place place ≡ true = (let k = h.0 in grind arith) in
        let b : nat_le m.place n ≡ true = (let k = h.0 in grind arith) in
        rw (a, b) (from (with_key tree m.path m.key) ms h.1)

paths_new : (marks : List TreeMark) (base : List Entry) (r j : ℕ) → Each (λ m. m.place ≤ length base) marks
    → (es : List Entry) → paths_at marks (es ++ base) r j ≡ paths_with marks (length base) (paths_at marks base r) (mine r es) j
paths_new marks base r j h [] = refl
paths_new marks base r j h (e ∷ es) = go (paths_new marks base r j h es) (is_of r e) refl
  where
    begins : (was : List (List ℕ)) (kind : EntryKind) → paths_begun marks (length (es ++ base)) j was kind ≡ paths_begun marks (length base) j was kind
    begins was (Begin job what) = ap (λ tree. if job == j then paths_of tree what.key else was) (tree_same marks (length base) (length (es ++ base)) h (let l = length-append es base in omega arith))
    begins was kind = refl

    go : paths_at marks (es ++ base) r j ≡ paths_with marks (length base) (paths_at marks base r) (mine r es) j → (b : Bool) → is_of r e ≡ b
        → paths_at marks (e ∷ es ++ base) r j ≡ paths_with marks (length base) (paths_at marks base r) (mine r (e ∷ es)) j
    go ih true is = rw (is) (begins (paths_at marks (es ++ base) r j) e.kind ∙ ap (λ x. paths_begun marks (length base) j x e.kind) ih)
    go ih false is = rw (is) ih

-- ---- what was sent

pub take_own : (r : ℕ) (w : Way) → taker_of w ≡ r → (past : List Entry) → taken_count past w ≡ taken_count (mine r past) w
take_own r w same past = own_by r (λ p. taken_count p w) (λ e p is. rw (subst (λ x. is_of x e ≡ false) (sym same) is) refl)
    (λ e p is ih. rw (subst (λ x. is_of x e ≡ true) (sym same) is) (ap (λ n. if takes w e.taken then n + 1 else n) ih)) past

abbrev letter_bare : Bare → Letter
letter_bare x = record { body = x.frame.body; sender = stamp_of x.entry; word = word_of_kind x.entry.kind }

bare_letters : (xs : List FlyingFrame) → map letter_of xs ≡ map letter_bare (map bare xs)
bare_letters [] = refl
bare_letters (x ∷ xs) = ap (λ ys. letter_of x ∷ ys) (bare_letters xs)

pub letters_own : (w : Way) (past : List Entry) → letters past w ≡ letters (mine (sender_of w) past) w
letters_own w past = bare_letters (frames_sent past w) ∙ ap (map letter_bare) (own_sent (sender_of w) w refl past) ∙ sym (bare_letters (frames_sent (mine (sender_of w) past) w))

-- a frame that an earlier entry sent was sent before
sent_within : (past : List Entry) (e : Entry) (before : List Entry) → Always ComesInOrder past → Occurs past e before
    → (w : Way) (k : ℕ) (it : FlyingFrame) → slice_get (frames_sent past w) k ≡ Some it → stands_before it.entry e ≡ true → slice_get (frames_sent before w) k ≡ Some it
sent_within [] e before h o w k it g l = absurd o
sent_within (y ∷ past) e before h o w k it g l = go (λ g o. sent_within past e before h.1 o w k it g l) o
  where
    newer : (stands_before e y ≡ true) ⊎ (e ≡ y) → slice_get (frames_sent past w) k ≡ Some it
    newer after = here (is_of (sender_of w) y) g
      where
        never : it.entry ≡ y → ⊥
        never same = elim after [
          | inl m ↦ never_earlier (stamp_of y) (subst (λ (x : Entry). stands_before x y ≡ true) same (earlier_trans (stamp_of it.entry) (stamp_of e) (stamp_of y) l m))
          | inr m ↦ never_earlier (stamp_of y) (subst (λ (x : Entry). stands_before x y ≡ true) same (subst (λ (x : Entry). stands_before it.entry x ≡ true) m l))
        ]

        here : (b : Bool) → slice_get (if b then frames_sent past w ++ map (flying_frame y past) (on_way w y) else frames_sent past w) k ≡ Some it → slice_get (frames_sent past w) k ≡ Some it
        here false g = g
        here true g = elim (get_append (frames_sent past w) (map (flying_frame y past) (on_way w y)) k it g) [
          | inl s ↦ s
          | inr m ↦ let t = member_mapped (flying_frame y past) (on_way w y) it m in absurd (never (ap (λ (x : FlyingFrame). x.entry) t.2))
        ]

    go : (slice_get (frames_sent past w) k ≡ Some it → Occurs past e before → slice_get (frames_sent before w) k ≡ Some it) → ((e ≡ y) × (before ≡ past)) ⊎ Occurs past e before → slice_get (frames_sent before w) k ≡ Some it
    go ih (inl o) = subst (λ (p : List Entry). slice_get (frames_sent p w) k ≡ Some it) (sym o.1) (newer (inr o.0))
    go ih (inr o) = ih (newer (inl (occurs_before past y e before h o))) o

-- ---- words

-- the letter that an entry of r takes, by the count of those that came, is that of the frame that may be taken next
pub record Reads (got : Way → List Letter) (before : List Entry) (r : ℕ) (f : FrameView) : Type 0 where
  pub it : FlyingFrame
  pub letter : Letter
  pub next : slice_get (frames_sent before (way_of r f)) (taken_count before (way_of r f)) ≡ Some it
  pub from : slice_get (got (way_of r f)) (taken_count (mine r before) (way_of r f)) ≡ Some letter
  pub same : letter_of it ≡ letter

abbrev pub ReadsIts : (Way → List Letter) → ℕ → List Entry → Entry → Type 0
ReadsIts got r before e = e.repo ≡ Some r → (f : FrameView) → e.taken ≡ Some f → Reads got before r f

-- the words of the letters are those of their senders
pub words_are : (got : Way → List Letter) (s : SetUp) (j c : ℕ) (p : List Entry) → Always (ReadsIts got s.number) p → word_told p s.number j c ≡ word_got got (mine s.number p) s.number j c
words_are got s j c [] h = refl
words_are got s j c (e ∷ p) h = go (words_are got s j c p h.1) (is_of r e) refl
  where
    r : ℕ
    r = s.number

    read : (was : Option Word) (o : Option FrameView) → e.repo ≡ Some r → e.taken ≡ o → word_taken p r c o was ≡ word_read got (mine r p) r c o was
    read was None is took = refl
    read was (Some f) is took = let x = h.0 is f took in ap (λ y. if f.peer == c then y else was) (ap word_of x.next ∙ ap (λ (l : Letter). l.word) x.same ∙ sym (ap word_in x.from))

    works_same : works p r ≡ works (mine r p) r
    works_same = ap (λ st. st.works) (state_own s p)

    go : word_told p r j c ≡ word_got got (mine r p) r j c → (b : Bool) → is_of r e ≡ b → word_told (e ∷ p) r j c ≡ word_got got (mine r (e ∷ p)) r j c
    go ih true is = rw is (rw is
        (ap (λ ws. if option_is (job_of e.kind) j && awaits_of c (find (λ w. w.number == j) ws) then word_taken p r c e.taken (word_told p r j c) else word_told p r j c) works_same
        ∙ ap (λ was. if option_is (job_of e.kind) j && awaits_of c (find (λ w. w.number == j) (works (mine r p) r)) then word_taken p r c e.taken was else was) ih
        ∙ ap (λ x. if option_is (job_of e.kind) j && awaits_of c (find (λ w. w.number == j) (works (mine r p) r)) then x else word_got got (mine r p) r j c)
        (read (word_got got (mine r p) r j c) e.taken (option_same e.repo r is) refl)))
    go ih false is = rw is ih

-- ---- what was added

pub is_own : (e : Entry) (r : ℕ) → e.repo ≡ Some r → is_of r e ≡ true
is_own e r is = rw is (eqb_refl r)

none_new : (news : List (List Entry)) (r : ℕ) → length news ≤ r → new_of news r ≡ []
none_new [] r l = refl
none_new (es ∷ ess) zero l = absurd (omega (arith, l))
none_new (es ∷ ess) (suc r) l = none_new ess r (omega (arith, l))

always_each : (P : List Entry → Entry → Type 0) (Q : Entry → Type 0) → ((past : List Entry) (e : Entry) → P past e → Q e) → (past : List Entry) → Always P past → Each Q past
always_each P Q f [] h = tt
always_each P Q f (e ∷ past) h = (f past e h.0, always_each P Q f past h.1)

always_more : (P : List Entry → Entry → Type 0) (Q : Entry → Type 0) → ((past : List Entry) (e : Entry) → Q e → P past e) → (es base : List Entry) → Each Q es → Always P base → Always P (es ++ base)
always_more P Q f [] base h k = k
always_more P Q f (e ∷ es) base h k = (f (es ++ base) e h.0, always_more P Q f es base h.1 k)

reversed_each : (P : Entry → Type 0) (es : List Entry) → Each P (reverse es) → Each P es
reversed_each P es h = subst (Each P) (reverse-reverse es) (Each-reverse P (reverse es) h)

module _ (run : Run) (news : List (List Entry)) (got : ℕ → Way → List Letter) (may : MayMerge run news got) where
  new_repo : (r : ℕ) → r < length run.repos → Each (λ e. e.repo ≡ Some r) (new_of news r)
  new_repo r l = Each-right _ (filter (is_of r) run.entries) (new_of news r)
      (reversed_each _ (filter (is_of r) run.entries ++ new_of news r) (always_each _ _ (λ p e k. k.own) (history run news r) (may.kept r l)))

  new_own : (r : ℕ) → r < length run.repos → Each (IsNew (reverse run.entries) (length run.repos)) (new_of news r)
  new_own r l = reversed_each _ (new_of news r) (follow_new (reverse run.entries) (length run.repos) r (reverse (new_of news r)) l (may.follow r l) (Each-reverse _ (new_of news r) (new_repo r l)))

  new_any : (r : ℕ) → Each (IsNew (reverse run.entries) (length run.repos)) (new_of news r)
  new_any r = go (nat_lt r (length run.repos)) refl
    where
      go : (b : Bool) → nat_lt r (length run.repos) ≡ b → Each (IsNew (reverse run.entries) (length run.repos)) (new_of news r)
      go true h = new_own r (grind arith)
      go false h = subst (Each _) (sym (none_new news r (let l = may.number in grind arith))) tt

-- ---- the merged run

module _ (run : Run) (news : List (List Entry)) (got : ℕ → Way → List Letter) (all : List Entry) (old : IsRun run) (may : MayMerge run news got) (merge : IsMerge news all) where
  abbrev base : List Entry
  base = reverse run.entries

  abbrev past : List Entry
  past = reverse all ++ base

  abbrev whole : Run
  whole = record run { entries = run.entries ++ all }

  -- its history is what the merged run has of it
  mine_is : (r : ℕ) → mine r past ≡ history run news r
  mine_is r = ap (mine r) (sym (reverse-append run.entries all)) ∙ filter_reverse (is_of r) (run.entries ++ all)
      ∙ ap reverse (filter-append (is_of r) run.entries all ∙ ap (λ es. filter (is_of r) run.entries ++ es) (merge.own r))

  paths_are : (r j : ℕ) → (set_up whole r).paths j ≡ (set_up_with run news r).paths j
  paths_are r j = ap (λ p. paths_at run.tree p r j) (reverse-append run.entries all)
      ∙ paths_new run.tree base r j (subst (λ n. Each (λ m. m.place ≤ n) run.tree) (sym (length-reverse run.entries)) may.marked) (reverse all)
      ∙ ap (λ n. paths_with run.tree n (paths_at run.tree base r) (mine r (reverse all)) j) (length-reverse run.entries)
      ∙ ap (λ es. paths_with run.tree (length run.entries) (paths_at run.tree base r) es j) (filter_reverse (is_of r) all ∙ ap reverse (merge.own r))

  set_up_is : (r : ℕ) → set_up whole r ≡ set_up_with run news r
  set_up_is r i = record { number = r; repos = run.repos; paths = λ j. paths_are r j i }

  -- ---- the order

  new_all : Each (IsNew base (length run.repos)) all
  new_all = each_by_own _ all (λ r. subst (Each _) (sym (merge.own r)) (new_any run news got may r)) merge.made

  ordered : Always ComesInOrder past
  ordered = new_ordered base (length run.repos) (reverse all) (always_of (set_up run) ComesInOrder (λ p e x. x.order) base old.steps) (Each-reverse _ all new_all) (rising_falls all merge.rising)

  -- ---- an entry of a repository

  known_all : Always (λ p e. (r : ℕ) → e.repo ≡ Some r → r < length run.repos) past
  known_all = always_more _ (IsNew base (length run.repos)) (λ p e x r is. subst (λ q. q < length run.repos) (same_Some _ _ (sym x.is ∙ is)) x.known) (reverse all) base (Each-reverse _ all new_all)
      (always_of (set_up run) _ (λ p e x r is. let m : MayBe (set_up run) p e (Some r) = subst (λ (o : Option ℕ). MayBe (set_up run) p e o) is x.may in m.1.known) base old.steps)

  waits_all : Always (λ p e. e.repo ≡ None → OnlyWaits e) past
  waits_all = always_more _ (IsNew base (length run.repos)) (λ p e x is. absurd (some_none _ (sym x.is ∙ is))) (reverse all) base (Each-reverse _ all new_all)
      (always_of (set_up run) _ (λ p e x is. subst (λ (o : Option ℕ). MayBe (set_up run) p e o) is x.may) base old.steps)

  known : (e : Entry) (before : List Entry) → Occurs past e before → (r : ℕ) → e.repo ≡ Some r → r < length run.repos
  known e before o = occurs_always _ past e before known_all o

  kept_step : (e : Entry) (before : List Entry) → Occurs past e before → (r : ℕ) → e.repo ≡ Some r → IsHistoryStep (set_up_with run news r) (got r) (mine r before) e
  kept_step e before o r is = occurs_always _ (history run news r) e (mine r before) (may.kept r (known e before o r is))
      (subst (λ (p : List Entry). Occurs p e (mine r before)) (mine_is r) (mine_occurs r past e before o (is_own e r is)))

  -- the letter that it takes is that of the frame whose turn it is
  record Found (before : List Entry) (r : ℕ) (f : FrameView) : Type 0 where
    pub reads : Reads (got r) before r f
    pub seq_is : f.seq ≡ taken_count before (way_of r f) + 1
    pub body_is : reads.it.frame.body ≡ f.body

  found : (e : Entry) (before : List Entry) → Occurs past e before → (r : ℕ) → e.repo ≡ Some r → (f : FrameView) → e.taken ≡ Some f → Found before r f
  found e before o r is f takes =
      let w : Way = way_of r f in
      let t : TakesNext (got r w) (mine r before) w e f = (kept_step e before o r is).takes f takes in
      let count : taken_count before w ≡ taken_count (mine r before) w = take_own r w (taker_way r f) before in
      let c : AreFirstLetters (got r w) (history run news (sender_of w)) w = may.came r (sender_of w) w (known e before o r is) (taker_way r f) refl in
      let there : letters past w ≡ got r w ++ c.rest = letters_own w past ∙ ap (λ p. letters p w) (mine_is (sender_of w)) ∙ c.is in
      let in_all : slice_get (letters past w) (taken_count (mine r before) w) ≡ Some t.letter =
      subst (λ xs. slice_get xs (taken_count (mine r before) w) ≡ Some t.letter) (sym there) (slice_get-left (got r w) c.rest (taken_count (mine r before) w) t.letter t.next) in
      let x = slice_get-map_some letter_of (frames_sent past w) (taken_count (mine r before) w) t.letter in_all in
      record {
        reads = record {
          it = x.0;
          letter = t.letter;
          next = subst (λ k. slice_get (frames_sent before w) k ≡ Some x.0) (sym count) (sent_within past e before ordered o w (taken_count (mine r before) w) x.0 x.1 (subst (λ (y : Letter). earlier y.sender (stamp_of e) ≡ true) (sym x.2) t.later));
          from = t.next;
          same = x.2;
        };
        seq_is = t.seq_is ∙ ap (λ k. k + 1) (sym count);
        body_is = ap (λ (l : Letter). l.body) x.2 ∙ t.body_is;
      }

  -- ---- the run

  frames_part : (e : Entry) (before : List Entry) (o : Occurs past e before) (r : ℕ) → (is : e.repo ≡ Some r) → FramesPart before r (kept_step e before o r is).words e
  frames_part e before o r is = record {
    takes = λ f h. let x = found e before o r is f h in record { it = x.reads.it; next = x.reads.next; seq_is = x.seq_is; body_is = x.body_is };
    tells = λ j outcome h c. (kept_step e before o r is).tells j outcome h c
        ∙ sym (words_are (got r) (set_up run r) j c before (always_before _ past e before (always_by (ReadsIts (got r) r) past (λ x p q own f h. (found x p q r own f h).reads)) o));
  }

  step : (e : Entry) (before : List Entry) → Occurs past e before → RunStep (set_up whole) before e
  step e before o = record { order = occurs_always ComesInOrder past e before ordered o; may = be e.repo refl }
    where
      be : (who : Option ℕ) → e.repo ≡ who → MayBe (set_up whole) before e who
      be None is = occurs_always _ past e before waits_all o is
      be (Some r) is = let k = kept_step e before o r is in
          (k.words, subst (λ (s : SetUp). OwnPart s before k.words e) (sym (set_up_is r)) (part_whole (set_up_with run news r) before k.words e k.does), frames_part e before o r is)

  merge_is_run : IsRun whole
  merge_is_run = record { repos = old.repos; steps = subst (RunPast (set_up whole)) (sym (reverse-append run.entries all)) (always_run (set_up whole) past (always_by _ past step)) }

-- ---- the law

-- the run with what its repositories added, in any list that has each one's in its order, and is in order
pub in_order_is_run : (run : Run) (news : List (List Entry)) (got : ℕ → Way → List Letter) (all : List Entry) → IsRun run → MayMerge run news got → IsMerge news all → IsRun (record run { entries = run.entries ++ all })
in_order_is_run run news got all old may merge = merge_is_run run news got all old may merge

each_news : (run : Run) (news : List (List Entry)) (got : ℕ → Way → List Letter) → MayMerge run news got
    → (n : ℕ) (ess : List (List Entry)) → ((r k : ℕ) → r ≡ n + k → new_of news r ≡ new_of ess k) → n + length ess ≡ length news → IsNews (now (reverse run.entries)) n ess
each_news run news got may n [] same l = tt
each_news run news got may n (es ∷ ess) same l =
    let m : n < length run.repos = (let k = may.number in omega (arith, l, k)) in
    let here : new_of news n ≡ es = same n 0 (omega arith) in (
      subst (Each _) here (Each-both _ _ (λ e. (e.repo ≡ Some n) × (e.time ≡ now (reverse run.entries))) (λ e x y. (x, y.at)) (new_of news n) (new_repo run news got may n m) (new_own run news got may n m)),
      subst StandInOrder here (follow_rises (reverse run.entries) (new_of news n) (may.follow n m)),
      each_news run news got may (suc n) ess (λ r k is. same r (suc k) (omega (arith, is))) (omega (arith, l)),
    )

-- merged by time, count and number behind the run that they extend
pub merged_runs_are_runs : (run : Run) (news : List (List Entry)) (got : ℕ → Way → List Letter) → IsRun run → MayMerge run news got → IsRun (merged_run run news)
merged_runs_are_runs run news got old may =
    merge_is_run run news got (merge_all news) old may (is_merge (now (reverse run.entries)) news (each_news run news got may 0 news (λ r k is. ap (new_of news) (omega (arith, is))) (omega arith)))
