-- What an entry did is read as it is written: a row for each kind.
use Rattle.std.proofs.Common.{◌≡◌, ℕ, ◌<◌, ◌≤◌, Bool, List, [], ◌∷◌, ◌++◌, length, Option, Some, None, refl, sym, ap, subst, ◌∙◌, append_assoc, arith}
use Rattle.std.specs.Prelude.{codes}
use Rattle.std.specs.Fmt.{digits, decimal}
use Rattle.annex_base.specs.Decimal.{number_of}
use Rattle.annex_base.specs.declared.kinds.Call.{Call}
use Rattle.annex_base.specs.declared.kinds.Call.TheVariants as calls
use Rattle.annex_base.specs.declared.kinds.Found.{Found}
use Rattle.annex_key.specs.Tree.{Entries}
use Rattle.drop_proof.specs.declared.rule.Need.{Need}
use Rattle.run_data.specs.declared.run.RepoView.{RepoView}
use Rattle.run_data.specs.declared.entry.Entry.{Entry}
use Rattle.run_data.specs.declared.entry.EntryKind.{EntryKind}
use Rattle.run_data.specs.declared.entry.EntryKind.TheVariants as kinds
use Rattle.run_data.specs.declared.entry.By.{By}
use Rattle.run_data.specs.declared.entry.LogFile.{LogFile}
use Rattle.run_data.specs.declared.job.Job.{Job}
use Rattle.run_data.specs.declared.job.Outcome.{Outcome}
use Rattle.run_data.specs.declared.job.Outcome.TheVariants as outcomes
use Rattle.run_model.specs.Past.{begun_job}
use Rattle.run_text.specs.Names.{name_of}
use Rattle.run_text.specs.Jobs.{job_text}
use Rattle.run_text.specs.Outcomes.{transfer_word_of, outcome_text}
use Rattle.script_words.specs.Fields.{greatest_offset, call_word}
use Rattle.script_words.specs.Marks.{behind_mark}
use Rattle.script_words.specs.Numbers.{number_up_to}
use Rattle.journal_text.specs.Journal.{kind_text, by_text, found_text, side_text, file_text, key_field}
use Rattle.journal_reading.specs.Forms.{number, or_dash, or_dash_text, by_rows}
use Rattle.journal_reading.specs.Fields.{small, large, key, IsBy, IsOther, IsFile, call_form, file_form}
use Rattle.journal_reading.specs.Kinds.{Did, did, IsDid, IsKind, IsKindOf, MayAdd, IsJob, IsNeed, IsOutcome, ended_text, begin_form, gain_form, share_form, release_form, check_form, bar_form, order_form, gone_form, log_form, close_form, fault_form, end_form, kind_rows, wait_rows, did_form}
use Rattle.journal_reading.proofs.FormLemmas.{IsForm, Lacks, is_number}
use Rattle.journal_reading.proofs.TableLemmas.{reads_at}
use Rattle.journal_reading.proofs.SoundLemmas.{OneLine, number_line, Sound, SoundRow, sound_row, is_table_of, line_of_table, sound_behind, sound_up_to, sound_dash}
use Rattle.journal_reading.proofs.FieldLemmas.{AreNamed, by_lacks, other_lacks, found_space}
use Rattle.journal_reading.proofs.SoundFields.{sound_small, sound_large, sound_repo, sound_key_last, sound_found, sound_side, sound_call, sound_other, sound_by, sound_file, small_space, large_space}
use Rattle.journal_reading.proofs.JobLemmas.{sound_job}
use Rattle.journal_reading.proofs.OutcomeLemmas.{sound_need, sound_number_or_dash, sound_outcome, job_word, dash_lacks, dash_number}

-- what an entry of repository r did, as text
abbrev pub DidText : List RepoView → List Entry → ℕ → Did → List ℕ
DidText repos past r x = kind_text repos past (Some r) x.1 x.0

small_dash : small.read (codes "-") ≡ None
unfolding number_up_to number_of digits
small_dash = refl

call_space : Lacks 32 call_form
call_space calls.Has ok = refl
call_space calls.Size ok = refl
call_space calls.Read ok = refl
call_space calls.PartSize ok = refl
call_space calls.ReadPart ok = refl
call_space calls.Append ok = refl
call_space calls.Commit ok = refl
call_space calls.DropPart ok = refl
call_space calls.Remove ok = refl
call_space calls.Hold ok = refl
call_space calls.Unhold ok = refl
call_space calls.Holds ok = refl
call_space calls.PutFile ok = refl
call_space calls.File ok = refl

-- ---- the fields of each kind

abbrev begins : (repos : List RepoView) → AreNamed repos → Entries → ℕ → Sound (ℕ × Job)
begins repos named tree r = sound_up_to 32 sound_small (λ j. sound_job repos named tree r) small_space refl

abbrev gains : (repos : List RepoView) → AreNamed repos → Sound (By × (ℕ × List ℕ))
gains repos named = sound_up_to 32 (sound_by repos named) (λ b. sound_behind (codes "size=") (sound_up_to 32 sound_large (λ n. sound_key_last) large_space refl) refl) (by_lacks repos named) refl

abbrev shares : (repos : List RepoView) → AreNamed repos → Sound (ℕ × (ℕ × (By × List ℕ)))
shares repos named = sound_up_to 32 sound_large (λ h. sound_behind (codes "end=") (sound_up_to 32 sound_large (λ e. sound_behind (codes "for=") (sound_up_to 32 (sound_other repos named) (λ b. sound_key_last) (other_lacks repos named) refl) refl) large_space refl) refl) large_space refl

abbrev releases : Sound (ℕ × List ℕ)
releases = sound_up_to 32 sound_large (λ h. sound_key_last) large_space refl

abbrev checks : Sound (Found × List ℕ)
checks = sound_up_to 32 sound_found (λ f. sound_key_last) found_space refl

abbrev bars : Sound (ℕ × (ℕ × (ℕ × List ℕ)))
bars = sound_up_to 32 sound_small (λ j. sound_need sound_key_last) small_space refl

abbrev orders : (repos : List RepoView) → AreNamed repos → Sound (ℕ × (ℕ × (Option ℕ × (ℕ × (ℕ × List ℕ)))))
orders repos named = sound_up_to 32 sound_small (λ j. sound_behind (codes "target=") (sound_up_to 32 (sound_repo repos named) (λ t.
    sound_behind (codes "deadline=") (sound_up_to 32 sound_number_or_dash (λ d. sound_need sound_key_last) (dash_lacks 32 refl large large_space) refl) refl) named.lacks_space refl) refl) small_space refl

abbrev removals : (repos : List RepoView) → AreNamed repos → Sound (By × List ℕ)
removals repos named = sound_up_to 32 (sound_other repos named) (λ b. sound_key_last) (other_lacks repos named) refl

abbrev logs : Sound (ℕ × LogFile)
logs = sound_up_to 32 sound_large (λ n. sound_file) large_space refl

abbrev talks : Sound (Option ℕ)
talks = sound_dash sound_small small_dash

abbrev closes : (repos : List RepoView) → AreNamed repos → Sound (ℕ × (ℕ × Bool))
closes repos named = sound_up_to 32 (sound_repo repos named) (λ p. sound_behind (codes "slot=") (sound_up_to 32 sound_small (λ s. sound_behind (codes "side=") sound_side refl) small_space refl) refl) named.lacks_space refl

pub is_clock : IsForm (number greatest_offset)
is_clock = is_number greatest_offset (omega arith)

abbrev crashes : Sound ℕ
crashes = record { form = number greatest_offset; is = is_clock; line = number_line greatest_offset }

abbrev faults : (repos : List RepoView) → AreNamed repos → Sound (Call × By)
faults repos named = sound_up_to 32 sound_call (λ c. sound_by repos named) call_space refl

abbrev ends : (repos : List RepoView) → AreNamed repos → List Entry → ℕ → Sound (ℕ × Outcome)
ends repos named past r = sound_up_to 32 sound_small (λ j. sound_outcome repos named r (transfer_word_of (begun_job past r j)) (job_word (begun_job past r j))) small_space refl

-- ---- the words of each kind

begin_words : (j what : List ℕ) → codes "begin " ++ (j ++ 32 ∷ what) ≡ codes "begin " ++ j ++ codes " " ++ what
begin_words j what = simp append_assoc

gain_words : (by size k : List ℕ) → codes "gain by=" ++ (by ++ 32 ∷ (codes "size=" ++ (size ++ 32 ∷ (codes "key=" ++ k)))) ≡ codes "gain by=" ++ by ++ codes " size=" ++ size ++ key_field k
gain_words by size k = simp append_assoc

share_words : (h e by k : List ℕ) → codes "share hold=" ++ (h ++ 32 ∷ (codes "end=" ++ (e ++ 32 ∷ (codes "for=" ++ (by ++ 32 ∷ (codes "key=" ++ k)))))) ≡ codes "share hold=" ++ h ++ codes " end=" ++ e ++ codes " for=" ++ by ++ key_field k
share_words h e by k = simp append_assoc

release_words : (h k : List ℕ) → codes "release hold=" ++ (h ++ 32 ∷ (codes "key=" ++ k)) ≡ codes "release hold=" ++ h ++ key_field k
release_words h k = simp append_assoc

check_words : (f k : List ℕ) → codes "check found=" ++ (f ++ 32 ∷ (codes "key=" ++ k)) ≡ codes "check found=" ++ f ++ key_field k
check_words f k = simp append_assoc

bar_words : (j n m k : List ℕ) → codes "bar " ++ (j ++ 32 ∷ (codes "need=" ++ (n ++ 44 ∷ (m ++ 32 ∷ (codes "key=" ++ k)))))
    ≡ ((codes "bar " ++ j) ++ (((codes " need=" ++ n) ++ codes ",") ++ m)) ++ (codes " key=" ++ k)
bar_words j n m k =
    let last : List ℕ = codes " key=" ++ k in
    sym (append_assoc (codes "bar " ++ j) (((codes " need=" ++ n) ++ codes ",") ++ m) last
    ∙ ap (λ l. (codes "bar " ++ j) ++ l) (append_assoc ((codes " need=" ++ n) ++ codes ",") m last ∙ append_assoc (codes " need=" ++ n) (codes ",") (m ++ last)))

need_words : (front n m k : List ℕ) → front ++ (codes " need=" ++ (n ++ 44 ∷ (m ++ (codes " key=" ++ k))))
    ≡ (front ++ (((codes " need=" ++ n) ++ codes ",") ++ m)) ++ (codes " key=" ++ k)
need_words front n m k =
    let last : List ℕ = codes " key=" ++ k in
    sym (append_assoc front (((codes " need=" ++ n) ++ codes ",") ++ m) last
    ∙ ap (λ l. front ++ l) (append_assoc ((codes " need=" ++ n) ++ codes ",") m last ∙ append_assoc (codes " need=" ++ n) (codes ",") (m ++ last)))

order_front : (j t d rest : List ℕ) → codes "order " ++ (j ++ 32 ∷ (codes "target=" ++ (t ++ 32 ∷ (codes "deadline=" ++ (d ++ rest)))))
    ≡ (codes "order " ++ j ++ codes " target=" ++ t ++ codes " deadline=" ++ d) ++ rest
order_front j t d rest = simp append_assoc

order_words : (j t d n m k : List ℕ) → codes "order " ++ (j ++ 32 ∷ (codes "target=" ++ (t ++ 32 ∷ (codes "deadline=" ++ (d ++ 32 ∷ (codes "need=" ++ (n ++ 44 ∷ (m ++ 32 ∷ (codes "key=" ++ k)))))))))
    ≡ ((codes "order " ++ j ++ codes " target=" ++ t ++ codes " deadline=" ++ d) ++ (((codes " need=" ++ n) ++ codes ",") ++ m)) ++ (codes " key=" ++ k)
order_words j t d n m k = order_front j t d (codes " need=" ++ (n ++ 44 ∷ (m ++ (codes " key=" ++ k)))) ∙ need_words (codes "order " ++ j ++ codes " target=" ++ t ++ codes " deadline=" ++ d) n m k

gone_words : (by k : List ℕ) → codes "gone by=" ++ (by ++ 32 ∷ (codes "key=" ++ k)) ≡ codes "gone by=" ++ by ++ key_field k
gone_words by k = simp append_assoc

log_words : (n file : List ℕ) → codes "log " ++ (n ++ 32 ∷ file) ≡ codes "log " ++ n ++ codes " " ++ file
log_words n file = simp append_assoc

close_words : (p s side : List ℕ) → codes "close peer=" ++ (p ++ 32 ∷ (codes "slot=" ++ (s ++ 32 ∷ (codes "side=" ++ side)))) ≡ codes "close peer=" ++ p ++ codes " slot=" ++ s ++ codes " side=" ++ side
close_words p s side = simp append_assoc

fault_words : (call by : List ℕ) → codes "fault " ++ (call ++ 32 ∷ by) ≡ codes "fault " ++ call ++ codes " " ++ by
fault_words call by = simp append_assoc

end_words : (j text : List ℕ) → codes "end " ++ (j ++ text) ≡ codes "end " ++ j ++ text
end_words j text = simp append_assoc

ended_spelled : (repos : List RepoView) (job : Option Job) (x : Outcome) → 32 ∷ ended_text repos (transfer_word_of job) x ≡ outcome_text repos job x
ended_spelled repos job (outcomes.Dropped p) = refl
ended_spelled repos job (outcomes.DroppedAbsent p) = refl
ended_spelled repos job (outcomes.Got s t) = refl
ended_spelled repos job (outcomes.Copied t) = refl
ended_spelled repos job (outcomes.Refused x) = refl
ended_spelled repos job (outcomes.TransferRefused x) = refl

order_spelled : (repos : List RepoView) (past : List Entry) (r j t : ℕ) (d : Option ℕ) (n m : ℕ) (k : List ℕ)
    → codes "order " ++ (order_form repos).text (j, (t, (d, (n, (m, k))))) ≡ kind_text repos past (Some r) 0 (kinds.Order j t d (record { n = n; m = m }) k)
order_spelled repos past r j t d n m k = order_words (decimal j) (name_of repos t) (or_dash_text decimal d) (decimal n) (decimal m) k
    ∙ ap (λ l. ((codes "order " ++ decimal j ++ codes " target=" ++ name_of repos t ++ codes " deadline=" ++ l) ++ (((codes " need=" ++ decimal n) ++ codes ",") ++ decimal m)) ++ (codes " key=" ++ k)) (dash_number d)

end_spelled : (repos : List RepoView) (past : List Entry) (r j : ℕ) (x : Outcome)
    → codes "end " ++ (end_form repos past r).text (j, x) ≡ kind_text repos past (Some r) 0 (kinds.End j x)
end_spelled repos past r j x = ap (λ l. codes "end " ++ (decimal j ++ l)) (ended_spelled repos (begun_job past r j) x) ∙ end_words (decimal j) (outcome_text repos (begun_job past r j) x)

talk_spelled : (repos : List RepoView) (past : List Entry) (r : ℕ) (x : Option ℕ) → codes "talk " ++ (or_dash small).text x ≡ kind_text repos past (Some r) 0 (kinds.Talk x)
talk_spelled repos past r None = refl
talk_spelled repos past r (Some j) = refl

-- ---- rows

abbrev KindRow : List RepoView → Entries → List Entry → ℕ → Type 0
KindRow repos tree past r = SoundRow (DidText repos past r) (IsDid repos tree (Some r))

abbrev begin_row : (repos : List RepoView) → AreNamed repos → (tree : Entries) (past : List Entry) (r : ℕ) → KindRow repos tree past r
begin_row repos named tree past r = sound_row (DidText repos past r) (IsDid repos tree (Some r)) (codes "begin ") (begins repos named tree r) (did (λ x. kinds.Begin x.0 x.1)) refl
    (λ x ok. (begin_words (decimal x.0) (job_text repos r x.1), ((ok.0, ok.1), refl)))

abbrev gain_row : (repos : List RepoView) → AreNamed repos → (tree : Entries) (past : List Entry) (r : ℕ) → KindRow repos tree past r
gain_row repos named tree past r = sound_row (DidText repos past r) (IsDid repos tree (Some r)) (codes "gain by=") (gains repos named) (did (λ x. kinds.Gain x.0 x.1.0 x.1.1)) refl
    (λ x ok. (gain_words (by_text repos x.0) (decimal x.1.0) x.1.1, ((ok.0, ok.1.0, ok.1.1), refl)))

abbrev share_row : (repos : List RepoView) → AreNamed repos → (tree : Entries) (past : List Entry) (r : ℕ) → KindRow repos tree past r
share_row repos named tree past r = sound_row (DidText repos past r) (IsDid repos tree (Some r)) (codes "share hold=") (shares repos named) (did (λ x. kinds.Share x.0 x.1.0 x.1.1.0 x.1.1.1)) refl
    (λ x ok. (share_words (decimal x.0) (decimal x.1.0) (by_text repos x.1.1.0) x.1.1.1, ((ok.0, ok.1.0, ok.1.1.0, ok.1.1.1), refl)))

abbrev release_row : (repos : List RepoView) (tree : Entries) (past : List Entry) (r : ℕ) → KindRow repos tree past r
release_row repos tree past r = sound_row (DidText repos past r) (IsDid repos tree (Some r)) (codes "release hold=") releases (did (λ x. kinds.Release x.0 x.1)) refl
    (λ x ok. (release_words (decimal x.0) x.1, ((ok.0, ok.1), refl)))

abbrev check_row : (repos : List RepoView) (tree : Entries) (past : List Entry) (r : ℕ) → KindRow repos tree past r
check_row repos tree past r = sound_row (DidText repos past r) (IsDid repos tree (Some r)) (codes "check found=") checks (did (λ x. kinds.Check x.0 x.1)) refl
    (λ x ok. (check_words (found_text x.0) x.1, (ok.1, refl)))

abbrev bar_row : (repos : List RepoView) (tree : Entries) (past : List Entry) (r : ℕ) → KindRow repos tree past r
bar_row repos tree past r = sound_row (DidText repos past r) (IsDid repos tree (Some r)) (codes "bar ") bars (did (λ x. kinds.Bar x.0 (record { n = x.1.0; m = x.1.1.0 }) x.1.1.1)) refl
    (λ x ok. (bar_words (decimal x.0) (decimal x.1.0) (decimal x.1.1.0) x.1.1.1, ((ok.0, record { n_small = ok.1.0; m_small = ok.1.1.0 }, ok.1.1.1), refl)))

abbrev order_row : (repos : List RepoView) → AreNamed repos → (tree : Entries) (past : List Entry) (r : ℕ) → KindRow repos tree past r
order_row repos named tree past r = sound_row (DidText repos past r) (IsDid repos tree (Some r)) (codes "order ") (orders repos named) (did (λ x. kinds.Order x.0 x.1.0 x.1.1.0 (record { n = x.1.1.1.0; m = x.1.1.1.1.0 }) x.1.1.1.1.1)) refl
    (λ x ok. (order_spelled repos past r x.0 x.1.0 x.1.1.0 x.1.1.1.0 x.1.1.1.1.0 x.1.1.1.1.1, ((ok.0, ok.1.0, ok.1.1.0, record { n_small = ok.1.1.1.0; m_small = ok.1.1.1.1.0 }, ok.1.1.1.1.1), refl)))

abbrev gone_row : (repos : List RepoView) → AreNamed repos → (tree : Entries) (past : List Entry) (r : ℕ) → KindRow repos tree past r
gone_row repos named tree past r = sound_row (DidText repos past r) (IsDid repos tree (Some r)) (codes "gone by=") (removals repos named) (did (λ x. kinds.Gone x.0 x.1)) refl
    (λ x ok. (gone_words (by_text repos x.0) x.1, ((ok.0, ok.1), refl)))

abbrev log_row : (repos : List RepoView) (tree : Entries) (past : List Entry) (r : ℕ) → KindRow repos tree past r
log_row repos tree past r = sound_row (DidText repos past r) (IsDid repos tree (Some r)) (codes "log ") logs (λ x. (kinds.Log x.1, x.0)) refl
    (λ x ok. (log_words (decimal x.0) (file_text x.1), (ok.1, ok.0)))

abbrev compact_row : (repos : List RepoView) (tree : Entries) (past : List Entry) (r : ℕ) → KindRow repos tree past r
compact_row repos tree past r = sound_row (DidText repos past r) (IsDid repos tree (Some r)) (codes "compact ") sound_file (did kinds.Compact) refl (λ x ok. (refl, (ok, refl)))

abbrev talk_row : (repos : List RepoView) (tree : Entries) (past : List Entry) (r : ℕ) → KindRow repos tree past r
talk_row repos tree past r = sound_row (DidText repos past r) (IsDid repos tree (Some r)) (codes "talk ") talks (did kinds.Talk) refl (λ x ok. (talk_spelled repos past r x, (ok, refl)))

abbrev close_row : (repos : List RepoView) → AreNamed repos → (tree : Entries) (past : List Entry) (r : ℕ) → KindRow repos tree past r
close_row repos named tree past r = sound_row (DidText repos past r) (IsDid repos tree (Some r)) (codes "close peer=") (closes repos named) (did (λ x. kinds.Close x.0 x.1.0 x.1.1)) refl
    (λ x ok. (close_words (name_of repos x.0) (decimal x.1.0) (side_text x.1.1), ((ok.0, ok.1.0), refl)))

abbrev crash_row : (repos : List RepoView) (tree : Entries) (past : List Entry) (r : ℕ) → KindRow repos tree past r
crash_row repos tree past r = sound_row (DidText repos past r) (IsDid repos tree (Some r)) (codes "crash clock=") crashes (did kinds.Crash) refl (λ x ok. (refl, (ok, refl)))

abbrev fault_row : (repos : List RepoView) → AreNamed repos → (tree : Entries) (past : List Entry) (r : ℕ) → KindRow repos tree past r
fault_row repos named tree past r = sound_row (DidText repos past r) (IsDid repos tree (Some r)) (codes "fault ") (faults repos named) (did (λ x. kinds.Fault x.0 x.1)) refl
    (λ x ok. (fault_words (call_word x.0) (by_text repos x.1), (ok.1, refl)))

abbrev end_row : (repos : List RepoView) → AreNamed repos → (tree : Entries) (past : List Entry) (r : ℕ) → KindRow repos tree past r
end_row repos named tree past r = sound_row (DidText repos past r) (IsDid repos tree (Some r)) (codes "end ") (ends repos named past r) (did (λ x. kinds.End x.0 x.1)) refl
    (λ x ok. (end_spelled repos past r x.0 x.1, ((ok.0, ok.1), refl)))

abbrev sound_rows : (repos : List RepoView) → AreNamed repos → (tree : Entries) (past : List Entry) (r : ℕ) → List (KindRow repos tree past r)
sound_rows repos named tree past r =
    begin_row repos named tree past r ∷ gain_row repos named tree past r ∷ share_row repos named tree past r ∷ release_row repos tree past r ∷ check_row repos tree past r
    ∷ bar_row repos tree past r ∷ order_row repos named tree past r ∷ gone_row repos named tree past r ∷ log_row repos tree past r ∷ compact_row repos tree past r
    ∷ talk_row repos tree past r ∷ close_row repos named tree past r ∷ crash_row repos tree past r ∷ fault_row repos named tree past r ∷ end_row repos named tree past r ∷ []

-- ---- each is read by its row

abbrev Reads : List RepoView → Entries → List Entry → ℕ → Did → Type 0
Reads repos tree past r x = by_rows (kind_rows repos tree past r) (DidText repos past r x) ≡ Some x

begin_there : (repos : List RepoView) → AreNamed repos → (tree : Entries) (past : List Entry) (r j : ℕ) (what : Job) → small.ok j → IsJob repos tree r what → Reads repos tree past r (kinds.Begin j what, 0)
begin_there repos named tree past r j what a b = reads_at (kind_rows repos tree past r) 0 (DidText repos past r (kinds.Begin j what, 0)) (codes "begin ") (begin_form repos tree r) (did (λ x. kinds.Begin x.0 x.1)) (begins repos named tree r).is
    (j, what) (a, b) (begin_words (decimal j) (job_text repos r what)) refl refl

gain_there : (repos : List RepoView) → AreNamed repos → (tree : Entries) (past : List Entry) (r : ℕ) (by : By) (size : ℕ) (k : List ℕ) → IsBy repos by → large.ok size → key.ok k → Reads repos tree past r (kinds.Gain by size k, 0)
unfolding behind_mark
gain_there repos named tree past r by size k a b c = reads_at (kind_rows repos tree past r) 1 (DidText repos past r (kinds.Gain by size k, 0)) (codes "gain by=") (gain_form repos) (did (λ x. kinds.Gain x.0 x.1.0 x.1.1)) (gains repos named).is
    (by, (size, k)) (a, (b, c)) (gain_words (by_text repos by) (decimal size) k) refl refl

share_there : (repos : List RepoView) → AreNamed repos → (tree : Entries) (past : List Entry) (r h e : ℕ) (by : By) (k : List ℕ) → large.ok h → large.ok e → IsOther repos by → key.ok k → Reads repos tree past r (kinds.Share h e by k, 0)
unfolding behind_mark
share_there repos named tree past r h e by k a b c d = reads_at (kind_rows repos tree past r) 2 (DidText repos past r (kinds.Share h e by k, 0)) (codes "share hold=") (share_form repos) (did (λ x. kinds.Share x.0 x.1.0 x.1.1.0 x.1.1.1)) (shares repos named).is
    (h, (e, (by, k))) (a, (b, (c, d))) (share_words (decimal h) (decimal e) (by_text repos by) k) refl refl

release_there : (repos : List RepoView) (tree : Entries) (past : List Entry) (r h : ℕ) (k : List ℕ) → large.ok h → key.ok k → Reads repos tree past r (kinds.Release h k, 0)
unfolding behind_mark
release_there repos tree past r h k a b = reads_at (kind_rows repos tree past r) 3 (DidText repos past r (kinds.Release h k, 0)) (codes "release hold=") release_form (did (λ x. kinds.Release x.0 x.1)) releases.is
    (h, k) (a, b) (release_words (decimal h) k) refl refl

check_there : (repos : List RepoView) (tree : Entries) (past : List Entry) (r : ℕ) (f : Found) (k : List ℕ) → key.ok k → Reads repos tree past r (kinds.Check f k, 0)
unfolding behind_mark
check_there repos tree past r f k a = reads_at (kind_rows repos tree past r) 4 (DidText repos past r (kinds.Check f k, 0)) (codes "check found=") check_form (did (λ x. kinds.Check x.0 x.1)) checks.is
    (f, k) (tt, a) (check_words (found_text f) k) refl refl

bar_there : (repos : List RepoView) (tree : Entries) (past : List Entry) (r j : ℕ) (need : Need) (k : List ℕ) → small.ok j → IsNeed need.n need.m → key.ok k → Reads repos tree past r (kinds.Bar j need k, 0)
unfolding behind_mark
bar_there repos tree past r j need k a b c = reads_at (kind_rows repos tree past r) 5 (DidText repos past r (kinds.Bar j need k, 0)) (codes "bar ") bar_form (did (λ x. kinds.Bar x.0 (record { n = x.1.0; m = x.1.1.0 }) x.1.1.1)) bars.is
    (j, (need.n, (need.m, k))) (a, (b.n_small, (b.m_small, c))) (bar_words (decimal j) (decimal need.n) (decimal need.m) k) refl refl

order_there : (repos : List RepoView) → AreNamed repos → (tree : Entries) (past : List Entry) (r j t : ℕ) (d : Option ℕ) (need : Need) (k : List ℕ) → small.ok j → t < length repos → (or_dash large).ok d → IsNeed need.n need.m → key.ok k → Reads repos tree past r (kinds.Order j t d need k, 0)
unfolding behind_mark
order_there repos named tree past r j t d need k a b c e f = reads_at (kind_rows repos tree past r) 6 (DidText repos past r (kinds.Order j t d need k, 0)) (codes "order ") (order_form repos) (did (λ x. kinds.Order x.0 x.1.0 x.1.1.0 (record { n = x.1.1.1.0; m = x.1.1.1.1.0 }) x.1.1.1.1.1)) (orders repos named).is
    (j, (t, (d, (need.n, (need.m, k))))) (a, (b, (c, (e.n_small, (e.m_small, f))))) (order_spelled repos past r j t d need.n need.m k) refl refl

gone_there : (repos : List RepoView) → AreNamed repos → (tree : Entries) (past : List Entry) (r : ℕ) (by : By) (k : List ℕ) → IsOther repos by → key.ok k → Reads repos tree past r (kinds.Gone by k, 0)
unfolding behind_mark
gone_there repos named tree past r by k a b = reads_at (kind_rows repos tree past r) 7 (DidText repos past r (kinds.Gone by k, 0)) (codes "gone by=") (gone_form repos) (did (λ x. kinds.Gone x.0 x.1)) (removals repos named).is
    (by, k) (a, b) (gone_words (by_text repos by) k) refl refl

log_there : (repos : List RepoView) (tree : Entries) (past : List Entry) (r n : ℕ) (file : LogFile) → large.ok n → IsFile file → Reads repos tree past r (kinds.Log file, n)
unfolding behind_mark
log_there repos tree past r n file a b = reads_at (kind_rows repos tree past r) 8 (DidText repos past r (kinds.Log file, n)) (codes "log ") log_form (λ x. (kinds.Log x.1, x.0)) logs.is
    (n, file) (a, b) (log_words (decimal n) (file_text file)) refl refl

compact_there : (repos : List RepoView) (tree : Entries) (past : List Entry) (r : ℕ) (file : LogFile) → IsFile file → Reads repos tree past r (kinds.Compact file, 0)
unfolding behind_mark
compact_there repos tree past r file a = reads_at (kind_rows repos tree past r) 9 (DidText repos past r (kinds.Compact file, 0)) (codes "compact ") file_form (did kinds.Compact) sound_file.is file a refl refl refl

talk_there : (repos : List RepoView) (tree : Entries) (past : List Entry) (r : ℕ) (j : Option ℕ) → (or_dash small).ok j → Reads repos tree past r (kinds.Talk j, 0)
unfolding behind_mark
talk_there repos tree past r j a = reads_at (kind_rows repos tree past r) 10 (DidText repos past r (kinds.Talk j, 0)) (codes "talk ") (or_dash small) (did kinds.Talk) talks.is j a (talk_spelled repos past r j) refl refl

close_there : (repos : List RepoView) → AreNamed repos → (tree : Entries) (past : List Entry) (r p s : ℕ) (side : Bool) → p < length repos → small.ok s → Reads repos tree past r (kinds.Close p s side, 0)
unfolding behind_mark
close_there repos named tree past r p s side a b = reads_at (kind_rows repos tree past r) 11 (DidText repos past r (kinds.Close p s side, 0)) (codes "close peer=") (close_form repos) (did (λ x. kinds.Close x.0 x.1.0 x.1.1)) (closes repos named).is
    (p, (s, side)) (a, (b, tt)) (close_words (name_of repos p) (decimal s) (side_text side)) refl refl

crash_there : (repos : List RepoView) (tree : Entries) (past : List Entry) (r clock : ℕ) → clock ≤ greatest_offset → Reads repos tree past r (kinds.Crash clock, 0)
unfolding behind_mark
crash_there repos tree past r clock a = reads_at (kind_rows repos tree past r) 12 (DidText repos past r (kinds.Crash clock, 0)) (codes "crash clock=") (number greatest_offset) (did kinds.Crash) is_clock clock a refl refl refl

fault_there : (repos : List RepoView) → AreNamed repos → (tree : Entries) (past : List Entry) (r : ℕ) (call : Call) (by : By) → IsBy repos by → Reads repos tree past r (kinds.Fault call by, 0)
unfolding behind_mark
fault_there repos named tree past r call by a = reads_at (kind_rows repos tree past r) 13 (DidText repos past r (kinds.Fault call by, 0)) (codes "fault ") (fault_form repos) (did (λ x. kinds.Fault x.0 x.1)) (faults repos named).is
    (call, by) (tt, a) (fault_words (call_word call) (by_text repos by)) refl refl

end_there : (repos : List RepoView) → AreNamed repos → (tree : Entries) (past : List Entry) (r j : ℕ) (x : Outcome) → small.ok j → IsOutcome repos r x → Reads repos tree past r (kinds.End j x, 0)
unfolding behind_mark
end_there repos named tree past r j x a b = reads_at (kind_rows repos tree past r) 14 (DidText repos past r (kinds.End j x, 0)) (codes "end ") (end_form repos past r) (did (λ y. kinds.End y.0 y.1)) (ends repos named past r).is
    (j, x) (a, b) (end_spelled repos past r j x) refl refl

none_added : (repos : List RepoView) (tree : Entries) (past : List Entry) (r : ℕ) (kind : EntryKind) (n : ℕ) → n ≡ 0 → Reads repos tree past r (kind, 0) → Reads repos tree past r (kind, n)
none_added repos tree past r kind n none reads = subst (λ m. Reads repos tree past r (kind, m)) (sym none) reads

kind_there : (repos : List RepoView) → AreNamed repos → (tree : Entries) (past : List Entry) (r : ℕ) (kind : EntryKind) (n : ℕ) → IsKind repos tree r kind → MayAdd kind n → Reads repos tree past r (kind, n)
kind_there repos named tree past r (kinds.Begin j what) n ok adds = none_added repos tree past r (kinds.Begin j what) n adds (begin_there repos named tree past r j what ok.0 ok.1)
kind_there repos named tree past r (kinds.Gain by size k) n ok adds = none_added repos tree past r (kinds.Gain by size k) n adds (gain_there repos named tree past r by size k ok.0 ok.1 ok.2)
kind_there repos named tree past r (kinds.Share h e by k) n ok adds = none_added repos tree past r (kinds.Share h e by k) n adds (share_there repos named tree past r h e by k ok.0 ok.1 ok.2 ok.3)
kind_there repos named tree past r (kinds.Release h k) n ok adds = none_added repos tree past r (kinds.Release h k) n adds (release_there repos tree past r h k ok.0 ok.1)
kind_there repos named tree past r (kinds.Check f k) n ok adds = none_added repos tree past r (kinds.Check f k) n adds (check_there repos tree past r f k ok)
kind_there repos named tree past r (kinds.Bar j need k) n ok adds = none_added repos tree past r (kinds.Bar j need k) n adds (bar_there repos tree past r j need k ok.0 ok.1 ok.2)
kind_there repos named tree past r (kinds.Order j t d need k) n ok adds = none_added repos tree past r (kinds.Order j t d need k) n adds (order_there repos named tree past r j t d need k ok.0 ok.1 ok.2 ok.3 ok.4)
kind_there repos named tree past r (kinds.Gone by k) n ok adds = none_added repos tree past r (kinds.Gone by k) n adds (gone_there repos named tree past r by k ok.0 ok.1)
kind_there repos named tree past r (kinds.Log file) n ok adds = log_there repos tree past r n file adds ok
kind_there repos named tree past r (kinds.Compact file) n ok adds = none_added repos tree past r (kinds.Compact file) n adds (compact_there repos tree past r file ok)
kind_there repos named tree past r (kinds.Talk j) n ok adds = none_added repos tree past r (kinds.Talk j) n adds (talk_there repos tree past r j ok)
kind_there repos named tree past r (kinds.Close p s side) n ok adds = none_added repos tree past r (kinds.Close p s side) n adds (close_there repos named tree past r p s side ok.0 ok.1)
kind_there repos named tree past r (kinds.Crash clock) n ok adds = none_added repos tree past r (kinds.Crash clock) n adds (crash_there repos tree past r clock ok)
kind_there repos named tree past r (kinds.Wait milliseconds) n ok adds = absurd ok
kind_there repos named tree past r (kinds.Fault call by) n ok adds = none_added repos tree past r (kinds.Fault call by) n adds (fault_there repos named tree past r call by ok)
kind_there repos named tree past r (kinds.End j x) n ok adds = none_added repos tree past r (kinds.End j x) n adds (end_there repos named tree past r j x ok.0 ok.1)

-- ---- a wait has no repository

abbrev WaitText : List RepoView → List Entry → Did → List ℕ
WaitText repos past x = kind_text repos past None x.1 x.0

abbrev wait_row : (repos : List RepoView) (tree : Entries) (past : List Entry) → SoundRow (WaitText repos past) (IsDid repos tree None)
wait_row repos tree past = sound_row (WaitText repos past) (IsDid repos tree None) (codes "wait ") sound_large (did kinds.Wait) refl (λ x ok. (refl, (ok, refl)))

wait_reads : (repos : List RepoView) (past : List Entry) (milliseconds n : ℕ) → large.ok milliseconds → n ≡ 0 → by_rows wait_rows (WaitText repos past (kinds.Wait milliseconds, n)) ≡ Some (kinds.Wait milliseconds, n)
wait_reads repos past milliseconds n ok none = subst (λ m. by_rows wait_rows (WaitText repos past (kinds.Wait milliseconds, m)) ≡ Some (kinds.Wait milliseconds, m)) (sym none)
    (reads_at wait_rows 0 (WaitText repos past (kinds.Wait milliseconds, 0)) (codes "wait ") large (did kinds.Wait) sound_large.is milliseconds ok refl refl refl)

wait_there : (repos : List RepoView) (tree : Entries) (past : List Entry) (kind : EntryKind) (n : ℕ) → IsKindOf repos tree None kind → MayAdd kind n → by_rows wait_rows (WaitText repos past (kind, n)) ≡ Some (kind, n)
wait_there repos tree past (kinds.Begin j what) n ok adds = absurd ok
wait_there repos tree past (kinds.Gain by size k) n ok adds = absurd ok
wait_there repos tree past (kinds.Share h e by k) n ok adds = absurd ok
wait_there repos tree past (kinds.Release h k) n ok adds = absurd ok
wait_there repos tree past (kinds.Check f k) n ok adds = absurd ok
wait_there repos tree past (kinds.Bar j need k) n ok adds = absurd ok
wait_there repos tree past (kinds.Order j t d need k) n ok adds = absurd ok
wait_there repos tree past (kinds.Gone by k) n ok adds = absurd ok
wait_there repos tree past (kinds.Log file) n ok adds = absurd ok
wait_there repos tree past (kinds.Compact file) n ok adds = absurd ok
wait_there repos tree past (kinds.Talk j) n ok adds = absurd ok
wait_there repos tree past (kinds.Close p s side) n ok adds = absurd ok
wait_there repos tree past (kinds.Crash clock) n ok adds = absurd ok
wait_there repos tree past (kinds.Wait milliseconds) n ok adds = wait_reads repos past milliseconds n ok adds
wait_there repos tree past (kinds.Fault call by) n ok adds = absurd ok
wait_there repos tree past (kinds.End j x) n ok adds = absurd ok

-- ---- the whole

pub is_did : (repos : List RepoView) → AreNamed repos → (tree : Entries) (past : List Entry) (repo : Option ℕ) → IsForm (did_form repos tree past repo)
is_did repos named tree past None = is_table_of (WaitText repos past) (IsDid repos tree None) (wait_row repos tree past ∷ []) (λ x ok. wait_there repos tree past x.0 x.1 ok.0 ok.1)
is_did repos named tree past (Some r) = is_table_of (DidText repos past r) (IsDid repos tree (Some r)) (sound_rows repos named tree past r) (λ x ok. kind_there repos named tree past r x.0 x.1 ok.0 ok.1)

pub did_line : (repos : List RepoView) → AreNamed repos → (tree : Entries) (past : List Entry) (repo : Option ℕ) → OneLine (did_form repos tree past repo)
did_line repos named tree past None = line_of_table (WaitText repos past) (IsDid repos tree None) (wait_row repos tree past ∷ [])
did_line repos named tree past (Some r) = line_of_table (DidText repos past r) (IsDid repos tree (Some r)) (sound_rows repos named tree past r)

abbrev pub sound_did : (repos : List RepoView) → AreNamed repos → (tree : Entries) (past : List Entry) → Option ℕ → Sound Did
sound_did repos named tree past repo = record { form = did_form repos tree past repo; is = is_did repos named tree past repo; line = did_line repos named tree past repo }
