-- The first line that is outside a journal: the lines before it begin one, and with it they begin none.
use Rattle.std.proofs.Common.{◌≡◌, inl, inr, ℕ, zero, suc, ◌+◌, ◌-◌, ◌≤◌, true, false, List, [], ◌∷◌, ◌++◌, map, length, take, Option, Some, None, refl, sym, ap, subst, ◌∙◌, append_assoc, length-append, arith, ◌==◌}
use Rattle.std.specs.Prelude.{codes, nat_le, nat_lt, ◌&&◌}
use Rattle.std.specs.Ordering.{nat_cmp, ordering_then}
use Rattle.std.specs.declared.cmp.Ordering.TheVariants as orders
use Rattle.std.proofs.lemmas.Bool.{le-leb, cases_Bool}
use Rattle.std.proofs.lemmas.Bool.Decides.{nat_tests}
use Rattle.std.proofs.lemmas.List.{append-nil, take_at}
use Rattle.annex_base.specs.ByteOrder.{text_cmp}
use Rattle.annex_base.specs.Lines.{newline, is_one_line}
use Rattle.annex_base.specs.Lists.{Each}
use Rattle.annex_base.proofs.Conditions.{and_first, eqb_refl}
use Rattle.annex_base.proofs.Lists.{Each-left, cons_nil}
use Rattle.run_data.specs.declared.run.Run.{Run}
use Rattle.run_data.specs.declared.run.RepoView.{RepoView}
use Rattle.run_data.specs.declared.run.TreeMark.{TreeMark}
use Rattle.run_data.specs.declared.entry.Entry.{Entry}
use Rattle.run_data.specs.declared.entry.EntryKind.TheVariants as kinds
use Rattle.run_data.specs.declared.entry.FrameView.{FrameView}
use Rattle.journal_reading.specs.Forms.{IfThere}
use Rattle.journal_reading.specs.Kinds.{MayAdd}
use Rattle.journal_reading.specs.Lines.{Head, head_form, is_less, line_may_follow, is_added, IsRepo, repo_words, path_words, tree_at}
use Rattle.journal_reading.specs.Reading.{Saying, ◌>>>◌, one, lines_of, with_byte, next_added, added_in, taken_in, sent_in, an_entry, frames_behind, entry_in, entries_in, repos_in, marks_in, header, a_run, marks_behind, run_in, line_number, ended, journal_in}
use Rattle.journal_reading.specs.Reading.Saying.{Said, Outside}
use Rattle.journal_reading.specs.Reading.Reading.{Journal, BadJournal}
use Rattle.journal_reading.specs.WellFormed.{AreNew, AreMarks, AreAdded, IsEntry, AreEntries, IsWellFormedRun, unmarked, text_of_lines, Begins, BadLinesAreFirst}
use Rattle.journal_reading.proofs.FieldLemmas.{AreNamed}
use Rattle.journal_reading.proofs.NameLemmas.{are_named}
use Rattle.journal_reading.proofs.SoundLemmas.{line_append}
use Rattle.journal_reading.proofs.SentLemmas.{sent_line, sent_back}
use Rattle.journal_reading.proofs.AddedLemmas.{one_said, added_line, next_back}
use Rattle.journal_reading.proofs.HeadLemmas.{is_head_form, head_line}
use Rattle.journal_reading.proofs.LineLemmas.{line_first}
use Rattle.journal_reading.proofs.EntryLemmas.{taken_lines, taken_back, entry_lines, entry_back, regrouped, entries_lines, text_append, AreLines}
use Rattle.journal_reading.proofs.LocalLemmas.{said_is, said_out, one_out, out_goes, local_run}
use Rattle.journal_reading.proofs.RunLemmas.{is_header, header_line, journal_lines, journal_text_is, journal_cut, run_there, run_back, repos_back, marks_back}

-- ---- lines that may be added

abbrev next_line : Option (List ℕ) → List ℕ
next_line None = codes "!"
next_line (Some last) = last ++ codes "!"

not_below : (b : ℕ) → nat_lt b b ≡ false
not_below b = grind (arith, nat_tests)

same_byte : (b : ℕ) → nat_cmp b b ≡ orders.Equal
same_byte b = rw (not_below b, eqb_refl b) refl

longer_after : (last : List ℕ) → text_cmp last (last ++ codes "!") ≡ orders.Less
longer_after [] = refl
longer_after (b ∷ last) = ap (λ o. ordering_then o (text_cmp last (last ++ codes "!"))) (same_byte b) ∙ longer_after last

abbrev IsLast : Option (List ℕ) → Type 0
IsLast last = IfThere (λ l. is_one_line l ≡ true) last

longer_added : (last : List ℕ) → is_one_line last ≡ true → is_added (last ++ codes "!") ≡ true
longer_added last ok =
    let some : 1 ≤ length (last ++ codes "!") = omega (arith, length-append last (codes "!")) in
    ap (λ t. t && nat_le 1 (length (last ++ codes "!"))) (line_append last (codes "!") ok refl) ∙ le-leb 1 (length (last ++ codes "!")) some

next_ok : (last : Option (List ℕ)) → IsLast last → (is_added (next_line last) ≡ true) × (line_may_follow last (next_line last) ≡ true)
next_ok None ok = (refl, refl)
next_ok (Some last) ok = (longer_added last ok, ap is_less (longer_after last))

abbrev some_lines : ℕ → Option (List ℕ) → List (List ℕ)
some_lines zero last = []
some_lines (suc n) last = next_line last ∷ some_lines n (Some (next_line last))

some_ok : (n : ℕ) (last : Option (List ℕ)) → IsLast last → AreAdded last (some_lines n last)
some_ok zero last ok = tt
some_ok (suc n) last ok =
    let h = next_ok last ok in
    (h.0, h.1, some_ok n (Some (next_line last)) (and_first (is_one_line (next_line last)) (nat_le 1 (length (next_line last))) h.0))

some_count : (n : ℕ) (last : Option (List ℕ)) → length (some_lines n last) ≡ n
some_count zero last = refl
some_count (suc n) last = ap suc (some_count n (Some (next_line last)))

record AddedOut (n : ℕ) (last : Option (List ℕ)) (all rest : List (List ℕ)) : Type 0 where
  pub lines : List (List ℕ)
  pub front : List (List ℕ)
  pub more : List (List ℕ)
  pub spelled : all ≡ front ++ rest
  pub whole : map added_line lines ≡ front ++ more
  pub ok : AreAdded last lines
  pub count : length lines ≡ n

added_out : (n : ℕ) (last : Option (List ℕ)) (all rest : List (List ℕ)) → IsLast last → added_in n last all ≡ Outside rest → AddedOut n last all rest
added_out zero last all rest ok e = absurd (said_out [] all rest e)
added_out (suc n) last all rest ok e = elim (out_goes (one (next_added last) all) (λ x end. added_in n (Some x) end >>> λ xs end. Said (x ∷ xs) end) rest e) [
  | inl first ↦ record {
    lines = some_lines (suc n) last;
    front = [];
    more = map added_line (some_lines (suc n) last);
    spelled = one_out (next_added last) all rest first;
    whole = refl;
    ok = some_ok (suc n) last ok;
    count = some_count (suc n) last;
  }
  | inr h ↦
      let o = one_said (next_added last) all h.x h.lines h.was in
      let w = next_back last o.line h.x o.reads in
      elim (out_goes (added_in n (Some h.x) h.lines) (λ xs end. Said (h.x ∷ xs) end) rest h.after) [
        | inl later ↦
            let v = added_out n (Some h.x) h.lines rest (and_first (is_one_line h.x) (nat_le 1 (length h.x)) w.1) later in
            record {
              lines = h.x ∷ v.lines;
              front = o.line ∷ v.front;
              more = v.more;
              spelled = o.first ∙ ap (λ ls. o.line ∷ ls) v.spelled;
              whole = ap (λ ls. added_line h.x ∷ ls) v.whole ∙ ap (λ (l : List ℕ). l ∷ (v.front ++ v.more)) (sym w.0);
              ok = (w.1, w.2, v.ok);
              count = ap suc v.count;
            }
        | inr g ↦ absurd (said_out (h.x ∷ g.x) g.lines rest g.after)
      ]
]

-- ---- entries

abbrev a_wait : Entry
a_wait = record { time = 0; count = 0; repo = None; kind = kinds.Wait 0; taken = None; sent = []; lines = [] }

wait_ok : (repos : List RepoView) (marks : List TreeMark) (before : ℕ) → IsEntry repos marks before a_wait
wait_ok repos marks before = record { time = omega arith; count = omega arith; repo = tt; kind = omega arith; adds = refl; taken = tt; sent = tt; lines = tt }

abbrev some_waits : ℕ → List Entry
some_waits zero = []
some_waits (suc n) = a_wait ∷ some_waits n

waits_ok : (n : ℕ) (repos : List RepoView) (marks : List TreeMark) (before : ℕ) → AreEntries repos marks before (some_waits n)
waits_ok zero repos marks before = tt
waits_ok (suc n) repos marks before = (wait_ok repos marks before, waits_ok n repos marks (before + 1))

waits_count : (n : ℕ) → length (some_waits n) ≡ n
waits_count zero = refl
waits_count (suc n) = ap suc (waits_count n)

record EntryOut (repos : List RepoView) (marks : List TreeMark) (past : List Entry) (all rest : List (List ℕ)) : Type 0 where
  pub e : Entry
  pub front : List (List ℕ)
  pub more : List (List ℕ)
  pub spelled : all ≡ front ++ rest
  pub whole : entry_lines repos past e ≡ front ++ more
  pub ok : IsEntry repos marks (length past) e

entry_out : (repos : List RepoView) → AreNamed repos → (marks : List TreeMark) (past : List Entry) (all rest : List (List ℕ)) → entry_in repos marks past all ≡ Outside rest → EntryOut repos marks past all rest
entry_out repos named marks past all rest is =
    let tree = tree_at marks (length past) in
    let form = head_form repos tree past in
    elim (out_goes (one form.read all) (λ x more. frames_behind repos x (taken_in repos more)) rest is) [
      | inl first ↦ record { e = a_wait; front = []; more = entry_lines repos past a_wait; spelled = one_out form.read all rest first; whole = refl; ok = wait_ok repos marks (length past) }
      | inr h ↦
          let x : Head = h.x in
          let o = one_said form.read all x h.lines h.was in
          let w = (is_head_form repos named tree past).back o.line x o.reads in
          let taken : Option FrameView × List (List ℕ) = taken_in repos h.lines in
          let t = taken_back repos named h.lines in
          let sent : List FrameView × List (List ℕ) = sent_in repos None taken.1 in
          let s = sent_back repos named None taken.1 in
          elim (out_goes (added_in x.1.1.1.1 None sent.1) (λ lines end. Said (an_entry x taken.0 sent.0 lines) end) rest h.after) [
            | inl later ↦
                let v = added_out x.1.1.1.1 None sent.1 rest tt later in
                let found : Entry = an_entry x taken.0 sent.0 v.lines in
                let head : form.text x ≡ head_line repos past found = ap (λ n. form.text (x.0, (x.1.0, (x.1.1.0, (x.1.1.1.0, n))))) (sym v.count) in
                let a = taken_lines repos taken.0 in
                let b = map (sent_line repos) sent.0 in
                record {
                  e = found;
                  front = o.line ∷ (a ++ (b ++ v.front));
                  more = v.more;
                  spelled = o.first ∙ ap (λ ls. o.line ∷ ls)
                      (t.spelled ∙ ap (λ ls. a ++ ls) (s.spelled ∙ ap (λ ls. b ++ ls) v.spelled) ∙ sym (regrouped a b v.front rest));
                  whole = ap (λ (l : List ℕ). l ∷ (a ++ (b ++ map added_line v.lines))) (sym (w.0 ∙ head))
                      ∙ ap (λ ls. o.line ∷ ls) (ap (λ ls. a ++ (b ++ ls)) v.whole ∙ sym (regrouped a b v.front v.more));
                  ok = record {
                    time = w.1.0;
                    count = w.1.1.0;
                    repo = w.1.1.1.0;
                    kind = w.1.1.1.1.0;
                    adds = subst (λ n. MayAdd x.1.1.1.0 n) (sym v.count) w.1.1.1.1.1;
                    taken = t.ok;
                    sent = s.ok;
                    lines = v.ok;
                  };
                }
            | inr g ↦ absurd (said_out (an_entry x taken.0 sent.0 g.x) g.lines rest g.after)
          ]
    ]

record EntriesOut (n : ℕ) (repos : List RepoView) (marks : List TreeMark) (past : List Entry) (before : ℕ) (all rest : List (List ℕ)) : Type 0 where
  pub es : List Entry
  pub front : List (List ℕ)
  pub more : List (List ℕ)
  pub spelled : all ≡ front ++ rest
  pub whole : entries_lines repos past es ≡ front ++ more
  pub ok : AreEntries repos marks before es
  pub count : length es ≡ n

entries_out : (n : ℕ) (repos : List RepoView) → AreNamed repos → (marks : List TreeMark) (past : List Entry) (before : ℕ) (all rest : List (List ℕ)) → length past ≡ before → entries_in n repos marks past all ≡ Outside rest
    → EntriesOut n repos marks past before all rest
entries_out zero repos named marks past before all rest same e = absurd (said_out [] all rest e)
entries_out (suc n) repos named marks past before all rest same e = elim (out_goes (entry_in repos marks past all) (λ x end. entries_in n repos marks (x ∷ past) end >>> λ xs end. Said (x ∷ xs) end) rest e) [
  | inl first ↦
      let v = entry_out repos named marks past all rest first in
      let later = entries_lines repos (v.e ∷ past) (some_waits n) in
      record {
        es = v.e ∷ some_waits n;
        front = v.front;
        more = v.more ++ later;
        spelled = v.spelled;
        whole = ap (λ ls. ls ++ later) v.whole ∙ append_assoc v.front v.more later;
        ok = (subst (λ k. IsEntry repos marks k v.e) same v.ok, waits_ok n repos marks (before + 1));
        count = ap suc (waits_count n);
      }
  | inr h ↦
      let x : Entry = h.x in
      let w = entry_back repos named marks past all x h.lines h.was in
      let next : length (x ∷ past) ≡ before + 1 = omega arith in
      elim (out_goes (entries_in n repos marks (x ∷ past) h.lines) (λ xs end. Said (x ∷ xs) end) rest h.after) [
        | inl later ↦
            let v = entries_out n repos named marks (x ∷ past) (before + 1) h.lines rest next later in
            let own = entry_lines repos past x in
            record {
              es = x ∷ v.es;
              front = own ++ v.front;
              more = v.more;
              spelled = w.spelled ∙ ap (λ ls. own ++ ls) v.spelled ∙ sym (append_assoc own v.front rest);
              whole = ap (λ ls. own ++ ls) v.whole ∙ sym (append_assoc own v.front v.more);
              ok = (subst (λ k. IsEntry repos marks k x) same w.ok, v.ok);
              count = ap suc v.count;
            }
        | inr g ↦ absurd (said_out (x ∷ g.x) g.lines rest g.after)
      ]
]

-- ---- the whole

record RunOut (all rest : List (List ℕ)) : Type 0 where
  pub run : Run
  pub front : List (List ℕ)
  pub more : List (List ℕ)
  pub spelled : all ≡ front ++ rest
  pub whole : journal_lines run.repos run.tree run.entries ≡ front ++ more
  pub is : IsWellFormedRun run

abbrev no_run : Run
no_run = record { repos = []; entries = []; tree = []; marks = [] }

no_run_is : IsWellFormedRun no_run
no_run_is = record { repos = tt; distinct = tt; count = omega arith; tree = tt; entries = tt }

run_out : (all rest : List (List ℕ)) → run_in all ≡ Outside rest → RunOut all rest
run_out all rest e = elim (out_goes (one header all) (λ n more. marks_behind n (repos_in [] more)) rest e) [
  | inl first ↦ record { run = no_run; front = []; more = journal_lines [] [] []; spelled = one_out header all rest first; whole = refl; is = no_run_is }
  | inr h ↦
      let n : ℕ = h.x in
      let o = one_said header all n h.lines h.was in
      let w = is_header.back o.line n o.reads in
      let repos : List RepoView × List (List ℕ) = repos_in [] h.lines in
      let r = repos_back h.lines [] in
      let marks : List TreeMark × List (List ℕ) = marks_in 0 n repos.1 in
      let m = marks_back repos.1 0 n in
      let each : Each IsRepo repos.0 = subst (Each IsRepo) (sym r.now) r.each in
      let new : AreNew [] repos.0 = subst (AreNew []) (sym r.now) r.new in
      let named = are_named repos.0 each new in
      elim (out_goes (entries_in n repos.0 marks.0 [] marks.1) (λ entries end. Said (a_run repos.0 marks.0 entries) end) rest h.after) [
        | inl later ↦
            let v = entries_out n repos.0 named marks.0 [] 0 marks.1 rest refl later in
            let a = map repo_words repos.0 in
            let b = map path_words marks.0 in
            let lines : h.lines ≡ a ++ (b ++ (v.front ++ rest)) =
            r.spelled ∙ ap (λ ls. map repo_words r.xs ++ ls) (m.spelled ∙ ap (λ ls. b ++ ls) v.spelled) ∙ ap (λ (xs : List RepoView). map repo_words xs ++ (b ++ (v.front ++ rest))) (sym r.now) in
            record {
              run = a_run repos.0 marks.0 v.es;
              front = o.line ∷ (a ++ (b ++ v.front));
              more = v.more;
              spelled = o.first ∙ ap (λ ls. o.line ∷ ls) (lines ∙ sym (regrouped a b v.front rest));
              whole = ap (λ (l : List ℕ). l ∷ (a ++ (b ++ entries_lines repos.0 [] v.es))) (ap header_line v.count ∙ sym w.0)
                  ∙ ap (λ ls. o.line ∷ ls) (ap (λ ls. a ++ (b ++ ls)) v.whole ∙ sym (regrouped a b v.front v.more));
              is = record {
                repos = each;
                distinct = new;
                count = subst (λ k. k ≤ 18446744073709551615) (sym v.count) w.1;
                tree = subst (λ k. AreMarks 0 k marks.0) (sym v.count) m.ok;
                entries = v.ok;
              };
            }
        | inr g ↦ absurd (said_out (a_run repos.0 marks.0 g.x) g.lines rest g.after)
      ]
]

-- ---- the lines of a text

plain_byte : (b : ℕ) (x : List (List ℕ) × List ℕ) → (b == newline) ≡ false → AreLines x.0 → AreLines (with_byte b x).0
plain_byte b ([], rest) other each = tt
plain_byte b (line ∷ lines, rest) other each = (rw other each.0, each.1)

lines_plain : (bytes : List ℕ) → AreLines (lines_of bytes).0
lines_plain [] = tt
lines_plain (b ∷ bytes) = elim (cases_Bool (b == newline)) [
  | inl ends ↦ rw ends (refl, lines_plain bytes)
  | inr other ↦ rw other (plain_byte b (lines_of bytes) other (lines_plain bytes))
]

lines_front : (lines : List (List ℕ)) (bytes : List ℕ) → AreLines lines → lines_of (text_of_lines lines ++ bytes) ≡ (lines ++ (lines_of bytes).0, (lines_of bytes).1)
lines_front [] bytes each = refl
lines_front (line ∷ lines) bytes each =
    ap lines_of (append_assoc (line ++ newline ∷ []) (text_of_lines lines) bytes ∙ append_assoc line (newline ∷ []) (text_of_lines lines ++ bytes))
    ∙ line_first line (text_of_lines lines ++ bytes) each.0
    ∙ ap (λ (x : List (List ℕ) × List ℕ). (line ∷ x.0, x.1)) (lines_front lines bytes each.1)

-- ---- the number of a line

abbrev place : List (List ℕ) → List (List ℕ) → ℕ
place all rest = line_number (length all) rest

before_it : (all front rest : List (List ℕ)) → all ≡ front ++ rest → take (place all rest - 1) all ≡ front
before_it all front rest e =
    let size : place all rest - 1 ≡ length front = omega (arith, ap length e, length-append front rest) in
    ap (λ k. take k all) size ∙ ap (λ ls. take (length front) ls) e ∙ take_at front rest (length front) refl

with_it : (all front : List (List ℕ)) (l : List ℕ) (ls : List (List ℕ)) → all ≡ front ++ l ∷ ls → take (place all (l ∷ ls)) all ≡ front ++ l ∷ []
with_it all front l ls e =
    let size : place all (l ∷ ls) ≡ length (front ++ l ∷ []) = omega (arith, ap length e, length-append front (l ∷ ls), length-append front (l ∷ [])) in
    ap (λ k. take k all) size ∙ ap (λ xs. take (length (front ++ l ∷ [])) xs) (e ∙ sym (append_assoc front (l ∷ []) ls)) ∙ take_at (front ++ l ∷ []) ls (length (front ++ l ∷ [])) refl

within : (all front rest : List (List ℕ)) → all ≡ front ++ rest → place all rest ≤ length all + 1
within all front rest e = omega (arith, ap length e, length-append front rest)

-- ---- the law

begins_by : (run : Run) → IsWellFormedRun run → (front more : List (List ℕ)) → journal_lines run.repos run.tree run.entries ≡ front ++ more → Begins front
begins_by run is front more e = (run, is, text_of_lines more, sym (journal_text_is run) ∙ ap text_of_lines e ∙ text_append front more)

-- no journal has these lines, where no lines that go on from them are read
begins_none : (front : List (List ℕ)) (l : List ℕ) → AreLines (front ++ l ∷ []) → ((run : Run) (more : List (List ℕ)) → run_in (front ++ l ∷ more) ≡ Said run [] → ⊥) → Begins (front ++ l ∷ []) → ⊥
begins_none front l plain never h =
    let run : Run = h.0 in
    let bytes : List ℕ = h.2 in
    let more : List (List ℕ) = (lines_of bytes).0 in
    let cut = sym (journal_cut run h.1) ∙ ap lines_of h.3 ∙ lines_front (front ++ l ∷ []) bytes plain in
    let lines : journal_lines run.repos run.tree run.entries ≡ front ++ l ∷ more = ap (λ (x : List (List ℕ) × List ℕ). x.0) cut ∙ append_assoc front (l ∷ []) more in
    never (unmarked run) more (ap run_in (sym lines) ∙ run_there run h.1)

plain_front : (all front rest : List (List ℕ)) (l : List ℕ) (ls : List (List ℕ)) → all ≡ front ++ l ∷ ls → AreLines all → AreLines (front ++ l ∷ [])
plain_front all front rest l ls e each =
    Each-left (λ line. is_one_line line ≡ true) (front ++ l ∷ []) ls (subst AreLines (e ∙ sym (append_assoc front (l ∷ []) ls)) each)

abbrev IsBad : List (List ℕ) → ℕ → Type 0
IsBad all n = (1 ≤ n) × (n ≤ length all + 1) × Begins (take (n - 1) all) × (n ≤ length all → Begins (take n all) → ⊥)

same_place : (m n : ℕ) → BadJournal m ≡ BadJournal n → m ≡ n
same_place m n e = cc

no_journal : (run : Run) (n : ℕ) → Journal run ≡ BadJournal n → ⊥
no_journal run n e = cc

outside_bad : (all : List (List ℕ)) → AreLines all → (rest : List (List ℕ)) → run_in all ≡ Outside rest → IsBad all (place all rest)
outside_bad all plain [] e =
    let v = run_out all [] e in
    (omega arith, within all v.front [] v.spelled, subst Begins (sym (before_it all v.front [] v.spelled)) (begins_by v.run v.is v.front v.more v.whole), λ low begins. omega arith)
outside_bad all plain (l ∷ ls) e =
    let v = run_out all (l ∷ ls) e in
    let s = local_run.out all (l ∷ ls) e in (
      omega arith,
      within all v.front (l ∷ ls) v.spelled,
      subst Begins (sym (before_it all v.front (l ∷ ls) v.spelled)) (begins_by v.run v.is v.front v.more v.whole),
      λ low begins. begins_none s.front l (plain_front all s.front (l ∷ ls) l ls s.spelled plain) (λ run more reads. said_out run [] (l ∷ more) (sym reads ∙ s.again l ls more refl)) (subst Begins (with_it all s.front l ls s.spelled) begins),
    )

-- lines behind the last entry
after_bad : (all : List (List ℕ)) → AreLines all → (run : Run) (l : List ℕ) (ls : List (List ℕ)) → run_in all ≡ Said run (l ∷ ls) → IsBad all (place all (l ∷ ls))
after_bad all plain run l ls e =
    let w = run_back all run (l ∷ ls) e in
    let own = journal_lines run.repos run.tree run.entries in
    let s = local_run.said all run (l ∷ ls) e in (
      omega arith,
      within all own (l ∷ ls) w.spelled,
      subst Begins (sym (before_it all own (l ∷ ls) w.spelled)) (begins_by run w.is own [] (sym (append-nil own))),
      λ low begins. begins_none s.front l (plain_front all s.front (l ∷ ls) l ls s.spelled plain) (λ other more reads. cons_nil l more (said_is run other (l ∷ more) [] (sym (s.again l ls more refl) ∙ reads)).1) (subst Begins (with_it all s.front l ls s.spelled) begins),
    )

-- bytes behind the last line
tail_bad : (all : List (List ℕ)) (run : Run) → run_in all ≡ Said run [] → IsBad all (length all + 1)
tail_bad all run e =
    let w = run_back all run [] e in
    let own = journal_lines run.repos run.tree run.entries in
    let same : place all [] ≡ length all + 1 = omega arith in
    (omega arith, omega arith, subst (λ n. Begins (take (n - 1) all)) same (subst Begins (sym (before_it all own [] w.spelled)) (begins_by run w.is own [] (sym (append-nil own)))), λ low begins. omega arith)

bad_by : (all : List (List ℕ)) → AreLines all → (tail : List ℕ) (o : Saying Run) (n : ℕ) → run_in all ≡ o → ended (length all) tail o ≡ BadJournal n → IsBad all n
bad_by all plain [] (Said run []) n is e = absurd (no_journal run n e)
bad_by all plain (b ∷ tail) (Said run []) n is e = subst (IsBad all) (same_place (length all + 1) n e) (tail_bad all run is)
bad_by all plain [] (Said run (l ∷ ls)) n is e = subst (IsBad all) (same_place (place all (l ∷ ls)) n e) (after_bad all plain run l ls is)
bad_by all plain (b ∷ tail) (Said run (l ∷ ls)) n is e = subst (IsBad all) (same_place (place all (l ∷ ls)) n e) (after_bad all plain run l ls is)
bad_by all plain [] (Outside rest) n is e = subst (IsBad all) (same_place (place all rest) n e) (outside_bad all plain rest is)
bad_by all plain (b ∷ tail) (Outside rest) n is e = subst (IsBad all) (same_place (place all rest) n e) (outside_bad all plain rest is)

pub are_first : BadLinesAreFirst
unfolding journal_in
are_first bytes n e = bad_by (lines_of bytes).0 (lines_plain bytes) (lines_of bytes).1 (run_in (lines_of bytes).0) n refl e
