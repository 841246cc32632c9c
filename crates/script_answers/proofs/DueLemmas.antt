-- One answer is due for the bytes of a source.
use Rattle.std.proofs.Common.{◌≡◌, ◌⊎◌, inl, inr, ℕ, ◌<◌, ◌≤◌, Bool, true, false, List, ◌++◌, length, Option, Some, None, Result, Ok, Err, IfOk, refl, sym, ap, subst, ◌∙◌, arith, length-append}
use Rattle.std.proofs.lemmas.Bool.{cases_lt}
use Rattle.std.proofs.lemmas.List.{append-nil}
use Rattle.std.specs.Prelude.{codes}
use Rattle.std.specs.Io.KnownBytes.{append_known}
use Rattle.script_commands.specs.declared.command.Command.{Command}
use Rattle.script_forms.specs.declared.fault.Quantity.{Quantity}
use Rattle.script_lang.specs.Limits.{limit_of, quantity_name}
use Rattle.script_lang.specs.Script.{Reading, Commands, BadLine, PastLimit, reading}
use Rattle.run_data.specs.Histories.{most_entries}
use Rattle.driver_model.specs.Limits.{limited_run}
use Rattle.driver_script.specs.Inputs.{driver_input_of}
use Rattle.driver_script.specs.Script.{IsScript, IsUnbuilt}
use Rattle.report_text.specs.Report.{report}
use Rattle.script_answers.specs.declared.due.Due.{Due}
use Rattle.script_answers.specs.declared.status.Status.{Status}
use Rattle.script_answers.specs.declared.status.Status.TheVariants.{Done, Usage, Script, ReadFault, WriteFault, NoMemory, Limit, NotARun, Input}
use Rattle.script_answers.specs.Whole.{IsRead, script_limit}
use Rattle.script_answers.specs.Top.{IsReport, IsComplaint, IsCutReport, IsMissing, IsLong, IsPast, IsDue, IsDueRead, MeetsEntries, Writes, AnswersRun, EndsWith, entries_name, limit_text, place_text}

-- one thing is said of a text
pub record HaveOneReading : Type 0 where
  pub script : (bytes : List ℕ) (script other : List Command) → IsScript bytes script → IsScript bytes other → script ≡ other
  pub line : (bytes : List ℕ) (line other : ℕ) → IsUnbuilt bytes line → IsUnbuilt bytes other → line ≡ other
  pub one : (bytes : List ℕ) (script : List Command) (line : ℕ) → IsScript bytes script → IsUnbuilt bytes line → ⊥

-- where the run of a script is cut, it has a full history
abbrev pub FullLaw : Type 0
FullLaw = (bytes : List ℕ) (script : List Command) → IsScript bytes script → (limited_run (driver_input_of script) script).is_cut ≡ true
    → MeetsEntries script (limited_run (driver_input_of script) script).run

-- what is due for a text is one status, with one text
abbrev pub IsOne : Status → Status → List ℕ → List ℕ → Type 0
IsOne s s' t t' = (s ≡ s') × (t ≡ t')

-- ---- a reading is one thing

one_place : (r : Reading) (line byte line' byte' : ℕ) → r ≡ BadLine line byte → r ≡ BadLine line' byte' → place_text line byte ≡ place_text line' byte'
one_place r line byte line' byte' is are =
    let same : BadLine line byte ≡ BadLine line' byte' = sym is ∙ are in
    let lines : line ≡ line' = cc in
    let bytes : byte ≡ byte' = cc in
    ap (λ l. place_text l byte) lines ∙ ap (place_text line') bytes

one_quantity : (r : Reading) (q q' : Quantity) → r ≡ PastLimit q → r ≡ PastLimit q' → q ≡ q'
one_quantity r q q' is are = let same : PastLimit q ≡ PastLimit q' = sym is ∙ are in cc

pub commands_or_bad : (r : Reading) (all : List Command) (line byte : ℕ) → r ≡ Commands all → r ≡ BadLine line byte → ⊥
commands_or_bad r all line byte is are = let same : Commands all ≡ BadLine line byte = sym is ∙ are in cc

pub commands_or_past : (r : Reading) (all : List Command) (q : Quantity) → r ≡ Commands all → r ≡ PastLimit q → ⊥
commands_or_past r all q is are = let same : Commands all ≡ PastLimit q = sym is ∙ are in cc

bad_or_past : (r : Reading) (line byte : ℕ) (q : Quantity) → r ≡ BadLine line byte → r ≡ PastLimit q → ⊥
bad_or_past r line byte q is are = let same : BadLine line byte ≡ PastLimit q = sym is ∙ are in cc

true_or_false : {b : Bool} → b ≡ true → b ≡ false → ⊥
true_or_false is isnt = let both : true ≡ false = sym is ∙ isnt in cc

-- ---- one text is due

abbrev cut_text : List Command → List ℕ
cut_text script = report script (limited_run (driver_input_of script) script).run ++ limit_text entries_name most_entries

module _ (x : HaveOneReading) (bytes t t' : List ℕ) where
  -- what comes of the commands is one thing
  one_script : (script other : List Command) → IsScript bytes script → IsScript bytes other → (P : List Command → List ℕ) → P script ≡ P other
  one_script script other is is' P = ap P (x.script bytes script other is is')

  one_report : IsReport bytes t → IsReport bytes t' → t ≡ t'
  one_report d d' = d.text_is ∙ one_script d.script d'.script d.is_script d'.is_script (λ script. report script (limited_run (driver_input_of script) script).run) ∙ sym d'.text_is

  one_complaint : (IsComplaint bytes t ⊎ IsMissing bytes t) → (IsComplaint bytes t' ⊎ IsMissing bytes t') → t ≡ t'
  one_complaint (inl d) (inl d') = d.text_is ∙ one_place (reading bytes) d.line d.byte d'.line d'.byte d.bad d'.bad ∙ sym d'.text_is
  one_complaint (inl d) (inr d') = absurd (commands_or_bad (reading bytes) d'.unbuilt.all d.line d.byte d'.unbuilt.says d.bad)
  one_complaint (inr d) (inl d') = absurd (commands_or_bad (reading bytes) d.unbuilt.all d'.line d'.byte d.unbuilt.says d'.bad)
  one_complaint (inr d) (inr d') = d.text_is ∙ ap (λ line. place_text line 0) (x.line bytes d.line d'.line d.unbuilt d'.unbuilt) ∙ sym d'.text_is

  one_cut : IsCutReport bytes t → IsCutReport bytes t' → t ≡ t'
  one_cut d d' = d.text_is ∙ one_script d.script d'.script d.is_script d'.is_script cut_text ∙ sym d'.text_is

  one_limit : (IsLong bytes t ⊎ (IsPast bytes t ⊎ IsCutReport bytes t)) → (IsLong bytes t' ⊎ (IsPast bytes t' ⊎ IsCutReport bytes t')) → t ≡ t'
  one_limit (inl d) (inl d') = d.text_is ∙ sym d'.text_is
  one_limit (inl d) (inr (inl d')) = absurd (omega (arith, d.long, d'.short))
  one_limit (inl d) (inr (inr d')) = absurd (omega (arith, d.long, d'.short))
  one_limit (inr (inl d)) (inl d') = absurd (omega (arith, d'.long, d.short))
  one_limit (inr (inr d)) (inl d') = absurd (omega (arith, d'.long, d.short))
  one_limit (inr (inl d)) (inr (inl d')) = d.text_is ∙ ap (λ q. limit_text (quantity_name q) (limit_of q)) (one_quantity (reading bytes) d.quantity d'.quantity d.past d'.past) ∙ sym d'.text_is
  one_limit (inr (inl d)) (inr (inr d')) = absurd (commands_or_past (reading bytes) d'.script d.quantity d'.is_script.says d.past)
  one_limit (inr (inr d)) (inr (inl d')) = absurd (commands_or_past (reading bytes) d.script d'.quantity d.is_script.says d'.past)
  one_limit (inr (inr d)) (inr (inr d')) = one_cut d d'

  report_or_complaint : IsReport bytes t → (IsComplaint bytes t' ⊎ IsMissing bytes t') → ⊥
  report_or_complaint d (inl d') = commands_or_bad (reading bytes) d.script d'.line d'.byte d.is_script.says d'.bad
  report_or_complaint d (inr d') = x.one bytes d.script d'.line d.is_script d'.unbuilt

  -- a run isn't both whole and cut
  report_or_cut : IsReport bytes t → IsCutReport bytes t' → ⊥
  report_or_cut d d' =
      let same = x.script bytes d.script d'.script d.is_script d'.is_script in
      true_or_false d'.cut (sym (ap (λ script. (limited_run (driver_input_of script) script).is_cut) same) ∙ d.whole)

  report_or_limit : IsReport bytes t → (IsLong bytes t' ⊎ (IsPast bytes t' ⊎ IsCutReport bytes t')) → ⊥
  report_or_limit d (inl d') = absurd (omega (arith, d.short, d'.long))
  report_or_limit d (inr (inl d')) = commands_or_past (reading bytes) d.script d'.quantity d.is_script.says d'.past
  report_or_limit d (inr (inr d')) = report_or_cut d d'

  complaint_or_limit : (IsComplaint bytes t ⊎ IsMissing bytes t) → (IsLong bytes t' ⊎ (IsPast bytes t' ⊎ IsCutReport bytes t')) → ⊥
  complaint_or_limit (inl d) (inl d') = absurd (omega (arith, d.short, d'.long))
  complaint_or_limit (inl d) (inr (inl d')) = bad_or_past (reading bytes) d.line d.byte d'.quantity d.bad d'.past
  complaint_or_limit (inl d) (inr (inr d')) = commands_or_bad (reading bytes) d'.script d.line d.byte d'.is_script.says d.bad
  complaint_or_limit (inr d) (inl d') = absurd (omega (arith, d.short, d'.long))
  complaint_or_limit (inr d) (inr (inl d')) = commands_or_past (reading bytes) d.unbuilt.all d'.quantity d.unbuilt.says d'.past
  complaint_or_limit (inr d) (inr (inr d')) = x.one bytes d'.script d.line d'.is_script d.unbuilt

pub due_once : HaveOneReading → (bytes : List ℕ) (s s' : Status) (t t' : List ℕ) → IsDue bytes s t → IsDue bytes s' t' → IsOne s s' t t'
due_once x bytes Done Done t t' d d' = (refl, one_report x bytes t t' d d')
due_once x bytes Done Script t t' d d' = absurd (report_or_complaint x bytes t t' d d')
due_once x bytes Done Limit t t' d d' = absurd (report_or_limit x bytes t t' d d')
due_once x bytes Script Done t t' d d' = absurd (report_or_complaint x bytes t' t d' d)
due_once x bytes Script Script t t' d d' = (refl, one_complaint x bytes t t' d d')
due_once x bytes Script Limit t t' d d' = absurd (complaint_or_limit x bytes t t' d d')
due_once x bytes Limit Done t t' d d' = absurd (report_or_limit x bytes t' t d' d)
due_once x bytes Limit Script t t' d d' = absurd (complaint_or_limit x bytes t' t d' d)
due_once x bytes Limit Limit t t' d d' = (refl, one_limit x bytes t t' d d')
due_once x bytes Usage s' t t' d d' = absurd d
due_once x bytes ReadFault s' t t' d d' = absurd d
due_once x bytes WriteFault s' t t' d d' = absurd d
due_once x bytes NoMemory s' t t' d d' = absurd d
due_once x bytes NotARun s' t t' d d' = absurd d
due_once x bytes Input s' t t' d d' = absurd d
due_once x bytes s Usage t t' d d' = absurd d'
due_once x bytes s ReadFault t t' d d' = absurd d'
due_once x bytes s WriteFault t t' d d' = absurd d'
due_once x bytes s NoMemory t t' d d' = absurd d'
due_once x bytes s NotARun t t' d d' = absurd d'
due_once x bytes s Input t t' d d' = absurd d'

-- past the limit, the limit is due
long_text : List ℕ
long_text = limit_text (codes "script") script_limit

due_long : (bytes : List ℕ) (s : Status) (t : List ℕ) → script_limit < length bytes → IsDue bytes s t → IsOne s Limit t long_text
unfolding long_text
due_long bytes Done t long d = absurd (omega (arith, d.short))
due_long bytes Script t long (inl d) = absurd (omega (arith, d.short))
due_long bytes Script t long (inr d) = absurd (omega (arith, d.short))
due_long bytes Limit t long (inl d) = (refl, d.text_is)
due_long bytes Limit t long (inr (inl d)) = absurd (omega (arith, d.short))
due_long bytes Limit t long (inr (inr d)) = absurd (omega (arith, d.short))
due_long bytes Usage t long d = absurd d
due_long bytes ReadFault t long d = absurd d
due_long bytes WriteFault t long d = absurd d
due_long bytes NoMemory t long d = absurd d
due_long bytes NotARun t long d = absurd d
due_long bytes Input t long d = absurd d

some_is : (xs ys : List ℕ) → Some xs ≡ Some ys → xs ≡ ys
some_is xs ys h = cc

-- what was read of known bytes is all of them, or is past the limit as they are
pub read_all_or_long : (limit : ℕ) (bytes read : List ℕ) (new : Option (List ℕ)) → IsRead limit (Some bytes) new read → (read ≡ bytes) ⊎ ((limit < length read) × (limit < length bytes))
read_all_or_long limit bytes read None r = let no : Some bytes ≡ None = r.front in absurd (cc)
read_all_or_long limit bytes read (Some rest) r = go (cases_lt limit (length read))
  where
    whole : bytes ≡ read ++ rest
    whole = some_is bytes (read ++ rest) r.front

    go : (limit < length read) ⊎ (length read ≤ limit) → (read ≡ bytes) ⊎ ((limit < length read) × (limit < length bytes))
    go (inl long) = inr (long, subst (λ n. limit < n) (sym (ap length whole ∙ length-append read rest)) (omega arith))
    go (inr short) = inl (sym (whole ∙ ap (λ end. read ++ end) (r.whole short rest refl) ∙ append-nil read))

-- what is due for what was read is due for what there was
due_same : HaveOneReading → (bytes : List ℕ) (s s' : Status) (text : List ℕ) (left left' : Option (List ℕ)) (t : List ℕ) → left ≡ Some bytes → IsDue bytes s text → IsDueRead left left' s' t → IsOne s' s t text
due_same x bytes s s' text left left' t known d r = go (read_all_or_long script_limit bytes r.bytes left' (subst (λ l. IsRead script_limit l left' r.bytes) known r.read))
  where
    go : (r.bytes ≡ bytes) ⊎ ((script_limit < length r.bytes) × (script_limit < length bytes)) → IsOne s' s t text
    go (inl same) = due_once x bytes s' s t text (subst (λ b. IsDue b s' t) same r.due) d
    go (inr long) =
        let read = due_long r.bytes s' t long.0 r.due in
        let all = due_long bytes s text long.1 d in
        (read.0 ∙ sym all.0, read.1 ∙ sym all.1)

module _ (x : HaveOneReading) (bytes text : List ℕ) (s : Status) (left left' taken taken' : Option (List ℕ)) (known : left ≡ Some bytes) (d : IsDue bytes s text) where
  due_written : (result : Status) → Writes left left' taken taken' result → EndsWith s text taken taken' result
  due_written result w =
      let same = due_same x bytes s result text left left' w.text known d w.due in
      inl (same.0, w.whole ∙ ap (λ t. append_known taken t) same.1)

  -- without a fault, what is due is answered, or memory ran out
  pub due_answered : (result : Status) → AnswersRun left left' taken taken' result → (result ≡ ReadFault → ⊥) → (result ≡ WriteFault → ⊥) → EndsWith s text taken taken' result
  due_answered Done a r w = due_written Done a
  due_answered Script a r w = due_written Script a
  due_answered Limit a r w = due_written Limit a
  due_answered WriteFault a r w = absurd (w refl)
  due_answered ReadFault a r w = absurd (r refl)
  due_answered NoMemory a r w = inr (refl, a)
  due_answered Usage a r w = absurd a
  due_answered NotARun a r w = absurd a
  due_answered Input a r w = absurd a

-- for a script whose run is whole its report is due
pub due_report : (bytes : List ℕ) (script : List Command) → length bytes ≤ script_limit → IsScript bytes script → (limited_run (driver_input_of script) script).is_cut ≡ false → IsDue bytes Done (report script (limited_run (driver_input_of script) script).run)
due_report bytes script short is whole = record { short = short; script = script; is_script = is; whole = whole; text_is = refl }

-- and for one whose run is cut the report up to there, and the limit
pub due_cut : FullLaw → (bytes : List ℕ) (script : List Command) → length bytes ≤ script_limit → IsScript bytes script → (limited_run (driver_input_of script) script).is_cut ≡ true
    → IsDue bytes Limit (report script (limited_run (driver_input_of script) script).run ++ limit_text entries_name most_entries)
due_cut law bytes script short is cut =
    inr (inr (record { short = short; script = script; is_script = is; cut = cut; full = law bytes script is cut; text_is = refl }))

-- ---- an answer with a status and a text is due

pub due_by : {E : Type 0} (r : Result Due E) (bytes text : List ℕ) (status : Status) → IfOk r (λ d. (d.status ≡ status) × (d.text.items ≡ text)) → IsDue bytes status text → IfOk r (λ d. IsDue bytes d.status d.text.items)
due_by (Ok d) bytes text status is due = subst (λ s. IsDue bytes s d.text.items) (sym is.0) (subst (IsDue bytes status) (sym is.1) due)
due_by (Err e) bytes text status is due = tt

pub complaint_is_due : (bytes : List ℕ) (line byte : ℕ) → length bytes ≤ script_limit → reading bytes ≡ BadLine line byte → IsDue bytes Script (place_text line byte)
complaint_is_due bytes line byte short bad = inl (record { short = short; line = line; byte = byte; bad = bad; text_is = refl })

pub missing_is_due : (bytes : List ℕ) (line : ℕ) → length bytes ≤ script_limit → IsUnbuilt bytes line → IsDue bytes Script (place_text line 0)
missing_is_due bytes line short unbuilt = inr (record { short = short; line = line; unbuilt = unbuilt; text_is = refl })

pub past_is_due : (bytes : List ℕ) (quantity : Quantity) → length bytes ≤ script_limit → reading bytes ≡ PastLimit quantity → IsDue bytes Limit (limit_text (quantity_name quantity) (limit_of quantity))
past_is_due bytes quantity short past = inr (inl (record { short = short; quantity = quantity; past = past; text_is = refl }))
