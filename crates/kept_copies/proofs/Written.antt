-- The runs of scripts of which no line writes into a trust log: nobody is trusted in them.
use Rattle.std.proofs.Common.{◌≡◌, ℕ, Bool, true, false, List, [], ◌∷◌, ◌++◌, refl, sym, ap, subst}
use Rattle.std.specs.Prelude.{if◌then◌else◌, not, reverse}
use Rattle.std.proofs.lemmas.Bool.{false≢true}
use Rattle.std.proofs.lemmas.List.{reverse-reverse}
use Rattle.annex_base.specs.Lists.{Each}
use Rattle.annex_base.proofs.Lists.{Each-append, Each-from_list_all}
use Rattle.run_data.specs.declared.entry.Entry.{Entry}
use Rattle.run_data.specs.declared.entry.EntryKind.{EntryKind}
use Rattle.run_data.specs.declared.entry.EntryKind.TheVariants as kinds
use Rattle.run_data.specs.declared.run.Run.{Run}
use Rattle.run_model.specs.Logs.{added_by, lines_ever}
use Rattle.run_model.specs.Past.{is_of}
use Rattle.script_commands.specs.declared.command.Command.{Command}
use Rattle.driver_model.specs.Driver.{Driver, DriverInput, at_first}
use Rattle.driver_model.specs.Driving.{does, drives, driver_after, run_of, with_mark}
use Rattle.driver_model.specs.Limits.{LimitedRun, drives_to_limit, is_too_long, limited_run, meets_limit, run_to_limit, within_limit}
use Rattle.driver_model.specs.Scripts.{IsOne}
use Rattle.kept_copies.specs.Scripts.{sets_trust, trusts_nobody}
use Rattle.kept_copies.specs.Trusting.{TrustsNobody, says_trusted, trust_path}
use Rattle.kept_copies.proofs.TrustFiles.{FileLaws, LogNoTrust, logs_trust}
use Rattle.kept_copies.proofs.Walking.{IsFree, line_free}

-- ---- entries without lines of a trust log

added_none : (kind : EntryKind) (lines : List (List ℕ)) → logs_trust kind ≡ false → added_by trust_path kind lines ≡ []
added_none (kinds.Log file) lines h = ap (λ (b : Bool). if b then lines else []) h
added_none kind lines h = refl

ever_none : (past : List Entry) (r : ℕ) → LogNoTrust past → Each (λ line. says_trusted line ≡ false) (lines_ever past r trust_path)
ever_none [] r none = tt
ever_none (e ∷ past) r none = go (ever_none past r none.1) (is_of r e)
  where
    go : Each (λ line. says_trusted line ≡ false) (lines_ever past r trust_path) → (b : Bool)
        → Each (λ line. says_trusted line ≡ false) (if b then added_by trust_path e.kind e.lines ++ lines_ever past r trust_path else lines_ever past r trust_path)
    go more true =
        Each-append (λ line. says_trusted line ≡ false) (added_by trust_path e.kind e.lines) (lines_ever past r trust_path)
        (subst (Each (λ line. says_trusted line ≡ false)) (sym (added_none e.kind e.lines none.0)) tt) more
    go more false = more

nobody_trusted : (run : Run) → LogNoTrust (reverse run.entries) → TrustsNobody run
nobody_trusted run none r = ever_none (reverse run.entries) r none

-- ---- lines

off : (b : Bool) → not b ≡ true → b ≡ false
off true h = absurd (false≢true h)
off false h = refl

module _ (laws : FileLaws) (g : DriverInput) where
  drives_free : (lines : List Command) (d : Driver) → Each (IsOne g) lines → Each (λ line. not (sets_trust line) ≡ true) lines → IsFree d → IsFree (drives g lines d)
  drives_free [] d all none h = h
  drives_free (line ∷ lines) d all none h = drives_free lines (with_mark (does g line d)) all.1 none.1 (line_free laws g line d all.0 (off (sets_trust line) none.0) h)

  within_free : (past : List Entry) → LogNoTrust past → LogNoTrust (within_limit g past)
  within_free [] h = h
  within_free (e ∷ past) h = go (within_free past h.1) (is_too_long g (e ∷ past))
    where
      go : LogNoTrust (within_limit g past) → (b : Bool) → LogNoTrust (if b then within_limit g past else e ∷ past)
      go more true = more
      go more false = h

  -- the entries of a run, from the newest
  abbrev IsFreeRun : LimitedRun → Type 0
  IsFreeRun x = LogNoTrust (reverse x.run.entries)

  newest_first : (past : List Entry) → LogNoTrust past → LogNoTrust (reverse (reverse past))
  newest_first past h = subst LogNoTrust (sym (reverse-reverse past)) h

  limit_free : (lines : List Command) (d : Driver) → Each (IsOne g) lines → Each (λ line. not (sets_trust line) ≡ true) lines → IsFree d → IsFreeRun (drives_to_limit g lines d)
  limit_free [] d all none h = newest_first d.past h
  limit_free (line ∷ lines) d all none h = go (limit_free lines (with_mark (does g line d)) all.1 none.1 after) (meets_limit g line d)
    where
      after : IsFree (does g line d)
      after = line_free laws g line d all.0 (off (sets_trust line) none.0) h

      go : IsFreeRun (drives_to_limit g lines (with_mark (does g line d))) → (b : Bool)
          → IsFreeRun (if b then record { run = run_to_limit g line d; is_cut = true } else drives_to_limit g lines (with_mark (does g line d)))
      go more true = newest_first (within_limit g (does g line d).past) (within_free (does g line d).past after)
      go more false = more

  pub run_trusts_nobody : (lines : List Command) → Each (IsOne g) lines → trusts_nobody lines ≡ true → TrustsNobody (run_of g lines)
  run_trusts_nobody lines all none =
      nobody_trusted (run_of g lines) (newest_first (driver_after g lines).past (drives_free lines at_first all (Each-from_list_all (λ line. not (sets_trust line)) lines none) tt))

  pub limited_trusts_nobody : (lines : List Command) → Each (IsOne g) lines → trusts_nobody lines ≡ true → TrustsNobody (limited_run g lines).run
  limited_trusts_nobody lines all none =
      nobody_trusted (limited_run g lines).run (limit_free lines at_first all (Each-from_list_all (λ line. not (sets_trust line)) lines none) tt)
