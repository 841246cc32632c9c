-- Entries are read as they are written.
use Rattle.std.proofs.Common.{◌≡◌, ℕ, zero, suc, ◌+◌, true, false, List, [], ◌∷◌, ◌++◌, map, length, Option, Some, None, refl, sym, ap, subst, ◌∙◌, append_assoc, arith}
use Rattle.std.specs.Prelude.{codes, nat_le}
use Rattle.std.specs.List.{flat_map}
use Rattle.std.specs.Fmt.{decimal}
use Rattle.std.specs.Char.{is_ascii_digit}
use Rattle.std.proofs.lemmas.Grind.{flat_map-append}
use Rattle.std.proofs.lemmas.List.{append-nil}
use Rattle.annex_base.specs.Lines.{newline, is_one_line}
use Rattle.annex_base.specs.Lists.{Each}
use Rattle.annex_base.proofs.Conditions.{and_first}
use Rattle.annex_base.proofs.Lists.{Each-append}
use Rattle.run_data.specs.declared.run.RepoView.{RepoView}
use Rattle.run_data.specs.declared.run.TreeMark.{TreeMark}
use Rattle.run_data.specs.declared.entry.Entry.{Entry}
use Rattle.run_data.specs.declared.entry.FrameView.{FrameView}
use Rattle.run_text.specs.Names.{name_of}
use Rattle.script_words.specs.Marks.{behind_mark}
use Rattle.journal_text.specs.Journal.{kind_text, head_text, frame_text, taken_text, sent_text, added_text, entry_text, entries_text}
use Rattle.journal_reading.specs.Forms.{IfThere, or_dash_text}
use Rattle.journal_reading.specs.Kinds.{MayAdd}
use Rattle.journal_reading.specs.Lines.{Head, head_form, IsFrame, frame_form, tree_at}
use Rattle.journal_reading.specs.Reading.{◌>>>◌, said_or, one, taken_by, taken_in, sent_in, added_in, an_entry, entry_behind, frames_behind, entry_in, entries_in}
use Rattle.journal_reading.specs.Reading.Saying.{Said}
use Rattle.journal_reading.specs.WellFormed.{AreSent, AreAdded, IsEntry, AreEntries, text_of_lines}
use Rattle.journal_reading.proofs.FieldLemmas.{AreNamed}
use Rattle.journal_reading.proofs.FrameLemmas.{is_frame_form}
use Rattle.journal_reading.proofs.SoundLemmas.{text_by_line, line_append}
use Rattle.journal_reading.proofs.SoundFields.{frame_line}
use Rattle.journal_reading.proofs.SentLemmas.{sent_line, NoneSent, sent_there, sent_back}
use Rattle.journal_reading.proofs.AddedLemmas.{said_goes, one_said, added_line, added_there, added_back}
use Rattle.journal_reading.proofs.DecimalLemmas.{no_number_before}
use Rattle.journal_reading.proofs.HeadLemmas.{is_head_form, head_form_line, head_of, head_line, head_spelled}

-- ---- marks that don't begin the first line

abbrev pub Unmarked : List ℕ → List (List ℕ) → Type 0
Unmarked mark [] = Unit {0}
Unmarked mark (line ∷ lines) = behind_mark mark line ≡ None

pub frame_unmarked : (repos : List RepoView) (mark line : List ℕ) → behind_mark mark line ≡ None → (frame_form repos mark).read line ≡ None
frame_unmarked repos mark line none = rw none refl

none_sent : (repos : List RepoView) (rest : List (List ℕ)) → Unmarked (codes "> ") rest → NoneSent repos rest
none_sent repos [] none = tt
none_sent repos (line ∷ lines) none = frame_unmarked repos (codes "> ") line none

taken_after_added : (lines rest : List (List ℕ)) → Unmarked (codes "< ") rest → Unmarked (codes "< ") (map added_line lines ++ rest)
unfolding behind_mark
taken_after_added [] rest none = none
taken_after_added (line ∷ lines) rest none = refl

sent_after_added : (lines rest : List (List ℕ)) → Unmarked (codes "> ") rest → Unmarked (codes "> ") (map added_line lines ++ rest)
unfolding behind_mark
sent_after_added [] rest none = none
sent_after_added (line ∷ lines) rest none = refl

taken_after_sent : (repos : List RepoView) (fs : List FrameView) (rest : List (List ℕ)) → Unmarked (codes "< ") rest → Unmarked (codes "< ") (map (sent_line repos) fs ++ rest)
unfolding behind_mark
taken_after_sent repos [] rest none = none
taken_after_sent repos (f ∷ fs) rest none = refl

-- ---- the frame that was taken

abbrev pub taken_lines : List RepoView → Option FrameView → List (List ℕ)
taken_lines repos None = []
taken_lines repos (Some f) = (codes "< " ++ frame_text repos f) ∷ []

pub taken_there : (repos : List RepoView) → AreNamed repos → (o : Option FrameView) (rest : List (List ℕ)) → IfThere (IsFrame repos) o → Unmarked (codes "< ") rest → taken_in repos (taken_lines repos o ++ rest) ≡ (o, rest)
taken_there repos named None [] ok none = refl
taken_there repos named None (line ∷ lines) ok none = ap (λ o. taken_by o line lines) (frame_unmarked repos (codes "< ") line none)
taken_there repos named (Some f) rest ok none = ap (λ o. taken_by o (codes "< " ++ frame_text repos f) rest) ((is_frame_form repos named (codes "< ")).there f ok)

pub record TakenBack (repos : List RepoView) (all : List (List ℕ)) (x : Option FrameView × List (List ℕ)) : Type 0 where
  pub spelled : all ≡ taken_lines repos x.0 ++ x.1
  pub ok : IfThere (IsFrame repos) x.0

taken_by_back : (repos : List RepoView) → AreNamed repos → (line : List ℕ) (lines : List (List ℕ)) (o : Option FrameView) → (frame_form repos (codes "< ")).read line ≡ o → TakenBack repos (line ∷ lines) (taken_by o line lines)
taken_by_back repos named line lines None is = record { spelled = refl; ok = tt }
taken_by_back repos named line lines (Some f) is =
    let w = (is_frame_form repos named (codes "< ")).back line f is in record { spelled = ap (λ (l : List ℕ). l ∷ lines) w.0; ok = w.1 }

pub taken_back : (repos : List RepoView) → AreNamed repos → (all : List (List ℕ)) → TakenBack repos all (taken_in repos all)
taken_back repos named [] = record { spelled = refl; ok = tt }
taken_back repos named (line ∷ lines) = taken_by_back repos named line lines ((frame_form repos (codes "< ")).read line) refl

-- ---- an entry

abbrev pub entry_lines : List RepoView → List Entry → Entry → List (List ℕ)
entry_lines repos past e = head_line repos past e ∷ (taken_lines repos e.taken ++ (map (sent_line repos) e.sent ++ map added_line e.lines))

head_there : (repos : List RepoView) → AreNamed repos → (marks : List TreeMark) (past : List Entry) (e : Entry) → IsEntry repos marks (length past) e
    → (head_form repos (tree_at marks (length past)) past).read (head_line repos past e) ≡ Some (head_of e)
head_there repos named marks past e ok = (is_head_form repos named (tree_at marks (length past)) past).there (head_of e) (ok.time, (ok.count, (ok.repo, (ok.kind, ok.adds))))

pub regrouped : {A : Type 0} (a b c d : List A) → (a ++ (b ++ c)) ++ d ≡ a ++ (b ++ (c ++ d))
regrouped a b c d = append_assoc a (b ++ c) d ∙ ap (λ l. a ++ l) (append_assoc b c d)

frames_there : (repos : List RepoView) → AreNamed repos → (h : Head) (taken : Option FrameView) (sent : List FrameView) (lines rest : List (List ℕ)) → h.1.1.1.1 ≡ length lines
    → IfThere (IsFrame repos) taken → AreSent repos None sent → AreAdded None lines → Unmarked (codes "< ") rest → Unmarked (codes "> ") rest
    → frames_behind repos h (taken_in repos ((taken_lines repos taken ++ (map (sent_line repos) sent ++ map added_line lines)) ++ rest)) ≡ Said (an_entry h taken sent lines) rest
frames_there repos named h taken sent lines rest count ok_taken ok_sent ok_lines no_taken no_sent =
    let last : List (List ℕ) = map added_line lines ++ rest in
    let more : List (List ℕ) = map (sent_line repos) sent ++ last in
    ap (λ ls. frames_behind repos h (taken_in repos ls)) (regrouped (taken_lines repos taken) (map (sent_line repos) sent) (map added_line lines) rest)
    ∙ ap (λ t. frames_behind repos h t) (taken_there repos named taken more ok_taken (taken_after_sent repos sent last (taken_after_added lines rest no_taken)))
    ∙ ap (λ s. entry_behind repos h (taken, more) s) (sent_there repos named sent None last ok_sent (none_sent repos last (sent_after_added lines rest no_sent)))
    ∙ ap (λ n. added_in n None last >>> λ ls end. Said (an_entry h taken sent ls) end) count
    ∙ ap (λ a. a >>> λ ls end. Said (an_entry h taken sent ls) end) (added_there lines rest None ok_lines)

pub entry_there : (repos : List RepoView) → AreNamed repos → (marks : List TreeMark) (past : List Entry) (e : Entry) (rest : List (List ℕ)) → IsEntry repos marks (length past) e → Unmarked (codes "< ") rest → Unmarked (codes "> ") rest
    → entry_in repos marks past (entry_lines repos past e ++ rest) ≡ Said e rest
entry_there repos named marks past e rest ok no_taken no_sent =
    let more : List (List ℕ) = (taken_lines repos e.taken ++ (map (sent_line repos) e.sent ++ map added_line e.lines)) ++ rest in
    ap (λ o. said_or (head_line repos past e ∷ more) more o >>> λ h end. frames_behind repos h (taken_in repos end)) (head_there repos named marks past e ok)
    ∙ frames_there repos named (head_of e) e.taken e.sent e.lines rest refl ok.taken ok.sent ok.lines no_taken no_sent

pub record EntryBack (repos : List RepoView) (marks : List TreeMark) (past : List Entry) (all : List (List ℕ)) (e : Entry) (rest : List (List ℕ)) : Type 0 where
  pub spelled : all ≡ entry_lines repos past e ++ rest
  pub ok : IsEntry repos marks (length past) e

pub same_said : {A : Type 0} (x y : A) (a b : List (List ℕ)) → Said x a ≡ Said y b → (x ≡ y) × (a ≡ b)
same_said x y a b e = (cc, cc)

pub entry_back : (repos : List RepoView) → AreNamed repos → (marks : List TreeMark) (past : List Entry) (all : List (List ℕ)) (e : Entry) (rest : List (List ℕ)) → entry_in repos marks past all ≡ Said e rest → EntryBack repos marks past all e rest
entry_back repos named marks past all e rest is =
    let tree = tree_at marks (length past) in
    let form = head_form repos tree past in
    let h = said_goes (one form.read all) (λ x more. frames_behind repos x (taken_in repos more)) e rest is in
    let o = one_said form.read all h.x h.lines h.was in
    let w = (is_head_form repos named tree past).back o.line h.x o.reads in
    let x : Head = h.x in
    let taken : Option FrameView × List (List ℕ) = taken_in repos h.lines in
    let t = taken_back repos named h.lines in
    let sent : List FrameView × List (List ℕ) = sent_in repos None taken.1 in
    let s = sent_back repos named None taken.1 in
    let g = said_goes (added_in x.1.1.1.1 None sent.1) (λ lines end. Said (an_entry x taken.0 sent.0 lines) end) e rest h.then in
    let a = added_back x.1.1.1.1 None sent.1 g.x g.lines g.was in
    let found : Entry = an_entry x taken.0 sent.0 g.x in
    let both = same_said found e g.lines rest g.then in
    let head : form.text x ≡ head_line repos past found = ap (λ n. form.text (x.0, (x.1.0, (x.1.1.0, (x.1.1.1.0, n))))) (sym a.count) in
    let end : sent.1 ≡ map added_line g.x ++ rest = a.spelled ∙ ap (λ l. map added_line g.x ++ l) both.1 in
    let whole : all ≡ entry_lines repos past found ++ rest =
    o.first ∙ ap (λ (l : List ℕ). l ∷ h.lines) (w.0 ∙ head)
    ∙ ap (λ ls. head_line repos past found ∷ ls)
    (t.spelled ∙ ap (λ ls. taken_lines repos taken.0 ++ ls) (s.spelled ∙ ap (λ ls. map (sent_line repos) sent.0 ++ ls) end)
    ∙ sym (regrouped (taken_lines repos taken.0) (map (sent_line repos) sent.0) (map added_line g.x) rest)) in
    subst (λ (y : Entry). EntryBack repos marks past all y rest) both.0 (record {
      spelled = whole;
      ok = record {
        time = w.1.0;
        count = w.1.1.0;
        repo = w.1.1.1.0;
        kind = w.1.1.1.1.0;
        adds = subst (λ n. MayAdd x.1.1.1.0 n) (sym a.count) w.1.1.1.1.1;
        taken = t.ok;
        sent = s.ok;
        lines = a.ok;
      };
    })

-- ---- entries

abbrev pub entries_lines : List RepoView → List Entry → List Entry → List (List ℕ)
entries_lines repos past [] = []
entries_lines repos past (e ∷ es) = entry_lines repos past e ++ entries_lines repos (e ∷ past) es

-- what stands behind an entry's time and point
abbrev head_rest : List RepoView → List Entry → Entry → List ℕ
head_rest repos past e = decimal e.count ++ 32 ∷ (or_dash_text (name_of repos) e.repo ++ 32 ∷ kind_text repos past e.repo (length e.lines) e.kind)

-- the first line of an entry begins with a digit
pub entries_unmarked : (b : ℕ) (mark : List ℕ) → is_ascii_digit b ≡ false → (repos : List RepoView) (marks : List TreeMark) (before : ℕ) (past es : List Entry) → AreEntries repos marks before es → Unmarked (b ∷ mark) (entries_lines repos past es)
entries_unmarked b mark other repos marks before past [] ok = tt
entries_unmarked b mark other repos marks before past (e ∷ es) ok =
    let time = ok.0.time in
    no_number_before b mark other e.time (omega arith) (46 ∷ head_rest repos past e)

pub entries_there : (repos : List RepoView) → AreNamed repos → (marks : List TreeMark) (es past : List Entry) (before : ℕ) → length past ≡ before → AreEntries repos marks before es
    → entries_in (length es) repos marks past (entries_lines repos past es) ≡ Said es []
entries_there repos named marks [] past before same ok = refl
entries_there repos named marks (e ∷ es) past before same ok =
    let rest : List (List ℕ) = entries_lines repos (e ∷ past) es in
    let now : IsEntry repos marks (length past) e = subst (λ n. IsEntry repos marks n e) (sym same) ok.0 in
    let next : length (e ∷ past) ≡ before + 1 = omega arith in
    ap (λ o. o >>> λ x more. entries_in (length es) repos marks (x ∷ past) more >>> λ xs end. Said (x ∷ xs) end)
    (entry_there repos named marks past e rest now (entries_unmarked 60 (codes " ") refl repos marks (before + 1) (e ∷ past) es ok.1) (entries_unmarked 62 (codes " ") refl repos marks (before + 1) (e ∷ past) es ok.1))
    ∙ ap (λ o. o >>> λ xs end. Said (e ∷ xs) end) (entries_there repos named marks es (e ∷ past) (before + 1) next ok.1)

pub record EntriesBack (n : ℕ) (repos : List RepoView) (marks : List TreeMark) (past : List Entry) (before : ℕ) (all : List (List ℕ)) (es : List Entry) (rest : List (List ℕ)) : Type 0 where
  pub spelled : all ≡ entries_lines repos past es ++ rest
  pub ok : AreEntries repos marks before es
  pub count : length es ≡ n

pub entries_back : (n : ℕ) (repos : List RepoView) → AreNamed repos → (marks : List TreeMark) (past : List Entry) (before : ℕ) (all : List (List ℕ)) (es : List Entry) (rest : List (List ℕ)) → length past ≡ before
    → entries_in n repos marks past all ≡ Said es rest → EntriesBack n repos marks past before all es rest
entries_back zero repos named marks past before all es rest same e =
    let both = same_said [] es all rest e in
    subst (λ (xs : List Entry). EntriesBack zero repos marks past before all xs rest) both.0 (record { spelled = both.1; ok = tt; count = refl })
entries_back (suc n) repos named marks past before all es rest same e =
    let h = said_goes (entry_in repos marks past all) (λ x more. entries_in n repos marks (x ∷ past) more >>> λ xs end. Said (x ∷ xs) end) es rest e in
    let g = said_goes (entries_in n repos marks (h.x ∷ past) h.lines) (λ xs end. Said (h.x ∷ xs) end) es rest h.then in
    let x : Entry = h.x in
    let both = same_said (x ∷ g.x) es g.lines rest g.then in
    let w = entry_back repos named marks past all x h.lines h.was in
    let next : length (x ∷ past) ≡ before + 1 = omega arith in
    let v = entries_back n repos named marks (x ∷ past) (before + 1) h.lines g.x g.lines next g.was in
    subst (λ (xs : List Entry). EntriesBack (suc n) repos marks past before all xs rest) both.0 (record {
      spelled = w.spelled ∙ ap (λ ls. entry_lines repos past x ++ ls) (v.spelled ∙ ap (λ ls. entries_lines repos (x ∷ past) g.x ++ ls) both.1)
          ∙ sym (append_assoc (entry_lines repos past x) (entries_lines repos (x ∷ past) g.x) rest);
      ok = (subst (λ k. IsEntry repos marks k x) same w.ok, v.ok);
      count = ap suc v.count;
    })

-- ---- their text

pub lines_text : {X : Type 0} (f g : X → List ℕ) → ((x : X) → f x ++ newline ∷ [] ≡ g x) → (xs : List X) → text_of_lines (map f xs) ≡ flat_map g xs
lines_text f g each [] = refl
lines_text f g each (x ∷ xs) = ap (λ l. l ++ text_of_lines (map f xs)) (each x) ∙ ap (λ l. g x ++ l) (lines_text f g each xs)

pub text_append : (a b : List (List ℕ)) → text_of_lines (a ++ b) ≡ text_of_lines a ++ text_of_lines b
text_append a b = flat_map-append (λ line. line ++ newline ∷ []) a b

taken_spelled : (repos : List RepoView) (o : Option FrameView) → text_of_lines (taken_lines repos o) ≡ taken_text repos o
taken_spelled repos None = refl
taken_spelled repos (Some f) = append-nil (codes "< " ++ frame_text repos f ++ codes "\n")

entry_spelled : (repos : List RepoView) (past : List Entry) (e : Entry) → text_of_lines (entry_lines repos past e) ≡ entry_text repos past e
entry_spelled repos past e =
    let taken = taken_lines repos e.taken in
    let sent = map (sent_line repos) e.sent in
    let added = map added_line e.lines in
    ap (λ l. l ++ text_of_lines (taken ++ (sent ++ added))) (head_spelled repos past e)
    ∙ ap (λ l. head_text repos past e ++ l)
    (text_append taken (sent ++ added) ∙ ap (λ l. text_of_lines taken ++ l) (text_append sent added)
    ∙ ap (λ l. l ++ (text_of_lines sent ++ text_of_lines added)) (taken_spelled repos e.taken)
    ∙ ap (λ l. taken_text repos e.taken ++ (l ++ text_of_lines added)) (lines_text (sent_line repos) (sent_text repos) (λ f. refl) e.sent)
    ∙ ap (λ l. taken_text repos e.taken ++ (flat_map (sent_text repos) e.sent ++ l)) (lines_text added_line added_text (λ l. refl) e.lines))
    ∙ sym (grouped (head_text repos past e) (taken_text repos e.taken) (flat_map (sent_text repos) e.sent) (flat_map added_text e.lines))
  where
    grouped : (a b c d : List ℕ) → ((a ++ b) ++ c) ++ d ≡ a ++ (b ++ (c ++ d))
    grouped a b c d = append_assoc (a ++ b) c d ∙ append_assoc a b (c ++ d)

pub entries_spelled : (repos : List RepoView) (past es : List Entry) → text_of_lines (entries_lines repos past es) ≡ entries_text repos past es
entries_spelled repos past [] = refl
entries_spelled repos past (e ∷ es) = text_append (entry_lines repos past e) (entries_lines repos (e ∷ past) es)
    ∙ ap (λ l. l ++ text_of_lines (entries_lines repos (e ∷ past) es)) (entry_spelled repos past e)
    ∙ ap (λ l. entry_text repos past e ++ l) (entries_spelled repos (e ∷ past) es)

-- ---- each of their lines is one

abbrev pub AreLines : List (List ℕ) → Type 0
AreLines lines = Each (λ line. is_one_line line ≡ true) lines

taken_lined : (repos : List RepoView) → AreNamed repos → (o : Option FrameView) → IfThere (IsFrame repos) o → AreLines (taken_lines repos o)
taken_lined repos named None ok = tt
taken_lined repos named (Some f) ok = (text_by_line _ (is_frame_form repos named (codes "< ")) (frame_line repos named (codes "< ") refl) f ok, tt)

sent_lined : (repos : List RepoView) → AreNamed repos → (last : Option FrameView) (fs : List FrameView) → AreSent repos last fs → AreLines (map (sent_line repos) fs)
sent_lined repos named last [] ok = tt
sent_lined repos named last (f ∷ fs) ok = (text_by_line _ (is_frame_form repos named (codes "> ")) (frame_line repos named (codes "> ") refl) f ok.0, sent_lined repos named (Some f) fs ok.2)

added_lined : (last : Option (List ℕ)) (lines : List (List ℕ)) → AreAdded last lines → AreLines (map added_line lines)
added_lined last [] ok = tt
added_lined last (line ∷ lines) ok = (line_append (codes "| ") line refl (and_first (is_one_line line) (nat_le 1 (length line)) ok.0), added_lined (Some line) lines ok.2)

entry_lined : (repos : List RepoView) → AreNamed repos → (marks : List TreeMark) (past : List Entry) (e : Entry) → IsEntry repos marks (length past) e → AreLines (entry_lines repos past e)
entry_lined repos named marks past e ok = (
  head_form_line repos named (tree_at marks (length past)) past (head_line repos past e) (head_of e) (head_there repos named marks past e ok),
  Each-append (λ line. is_one_line line ≡ true) (taken_lines repos e.taken) (map (sent_line repos) e.sent ++ map added_line e.lines) (taken_lined repos named e.taken ok.taken)
      (Each-append (λ line. is_one_line line ≡ true) (map (sent_line repos) e.sent) (map added_line e.lines) (sent_lined repos named None e.sent ok.sent) (added_lined None e.lines ok.lines)),
)

pub entries_lined : (repos : List RepoView) → AreNamed repos → (marks : List TreeMark) (es past : List Entry) (before : ℕ) → length past ≡ before → AreEntries repos marks before es → AreLines (entries_lines repos past es)
entries_lined repos named marks [] past before same ok = tt
entries_lined repos named marks (e ∷ es) past before same ok =
    let next : length (e ∷ past) ≡ before + 1 = omega arith in
    Each-append (λ line. is_one_line line ≡ true) (entry_lines repos past e) (entries_lines repos (e ∷ past) es)
    (entry_lined repos named marks past e (subst (λ n. IsEntry repos marks n e) (sym same) ok.0)) (entries_lined repos named marks es (e ∷ past) (before + 1) next ok.1)
