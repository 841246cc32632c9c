-- Globs and preferred content expressions: what matches, what is read alike and what holds, worked out by hand (by
-- computation). Where a text goes wrong that is no expression is a case of `fault_table`.
use Rattle.std.specs.Prelude.{◌≡◌, refl, ℕ, Bool, true, false, List, [], ◌∷◌, ◌++◌, map, replicate, Option, Some, None, option_map, is_some, codes}
use Rattle.std.specs.List.{concat, list_all}
use Rattle.std.specs.Str.{chars}
use Rattle.annex_base.specs.declared.kinds.Level.{Level}
use Rattle.annex_base.specs.declared.kinds.Level.TheVariants as levels
use Rattle.glob_match.specs.declared.item.Item.TheVariants.{AnyRun, AnyOne, OneOf, Only}
use Rattle.glob_match.specs.Glob.{HasOpenSet, glob_matches}
use Rattle.glob_match.specs.Spelled.{glob_in}
use Rattle.wanted_expr.specs.declared.data.Claimant.{Claimant}
use Rattle.wanted_expr.specs.declared.data.Facts.{Facts}
use Rattle.wanted_expr.specs.declared.data.Member.{Member}
use Rattle.wanted_expr.specs.declared.data.Word.TheVariants.{Present, Standard, GroupWanted}
use Rattle.wanted_expr.specs.Formula.{Formula, Atom, Negation, Conjunction, Disjunction}
use Rattle.wanted_expr.specs.Parsed.{formula_in}
use Rattle.wanted_expr.specs.Truth.{has_groupwanted, holds}
use Rattle.text_claims.proofs.Cases.{Answers}
use Rattle.text_claims.proofs.Opened.{opened}

-- ---- whether the glob that a text spells matches a text

abbrev matches : List ℕ × List ℕ → Option Bool
matches c = option_map (λ glob. glob_matches glob (chars c.1)) (glob_in c.0)

abbrev globs_cases : List ((List ℕ × List ℕ) × Option Bool)
globs_cases =
    (([], []), Some true)
    ∷ (([], codes "a"), Some false)
    ∷ ((codes "a", codes "a"), Some true)
    ∷ ((codes "a", codes "A"), Some false)
    ∷ ((codes "*", []), Some true)
    ∷ ((codes "*", codes "doc/a.txt"), Some true)
    ∷ ((codes "**", codes "x"), Some true)
    ∷ ((codes "*.txt", codes "y.txt"), Some true)
    ∷ ((codes "*.txt", codes "doc/y.txt"), Some true)
    ∷ ((codes "*.txt", codes "y.txt.gz"), Some false)
    ∷ ((codes "*.md", codes "y.txt"), Some false)
    ∷ ((codes "x*", codes "y.txt"), Some false)
    ∷ ((codes "*archive/*", codes "archive/9"), Some true)
    ∷ ((codes "*archive/*", codes "doc/9"), Some false)
    ∷ ((codes "a*b*c", codes "abc"), Some true)
    ∷ ((codes "a*b*c", codes "axbxbc"), Some true)
    ∷ ((codes "a*b*c", codes "acb"), Some false)
    ∷ ((codes "*ab", codes "aab"), Some true)
    ∷ ((codes "*a*b", codes "ba"), Some false)
    ∷ ((codes "?", []), Some false)
    ∷ ((codes "?", codes "a"), Some true)
    ∷ ((codes "?", codes "/"), Some true)
    ∷ ((codes "?", 195 ∷ 169 ∷ []), Some true)
    ∷ ((codes "??", 195 ∷ 169 ∷ []), Some false)
    ∷ ((codes "*?", []), Some false)
    ∷ ((codes "a" ++ 92 ∷ codes "*", codes "a" ++ 92 ∷ codes "x"), Some true)
    ∷ []

globs : Answers matches globs_cases
unfolding opened
globs = refl

-- sets have ranges and contraries
abbrev sets_cases : List ((List ℕ × List ℕ) × Option Bool)
sets_cases =
    ((codes "[abc]", codes "b"), Some true)
    ∷ ((codes "[abc]", codes "d"), Some false)
    ∷ ((codes "[abc]", []), Some false)
    ∷ ((codes "[a-c]", codes "b"), Some true)
    ∷ ((codes "[a-c]", codes "-"), Some false)
    ∷ ((codes "[c-a]", codes "b"), Some false)
    ∷ ((codes "[c-a]", codes "c"), Some false)
    ∷ ((codes "[a-c-e]", codes "-"), Some true)
    ∷ ((codes "[a-c-e]", codes "e"), Some true)
    ∷ ((codes "[a-c-e]", codes "d"), Some false)
    ∷ ((codes "[-a]", codes "-"), Some true)
    ∷ ((codes "[a-]", codes "-"), Some true)
    ∷ ((codes "[a-]", codes "b"), Some false)
    ∷ ((codes "[!a]", codes "a"), Some false)
    ∷ ((codes "[!a]", codes "b"), Some true)
    ∷ ((codes "[!a-c]", codes "b"), Some false)
    ∷ ((codes "[a!]", codes "!"), Some true)
    ∷ ((codes "[!!]", codes "!"), Some false)
    ∷ ((codes "[]", codes "a"), Some false)
    ∷ ((codes "[]a]", codes "a]"), Some false)
    ∷ ((codes "[!]", codes "a"), Some true)
    ∷ ((codes "[[]", codes "["), Some true)
    ∷ ((codes "]", codes "]"), Some true)
    ∷ ((codes "[" ++ 195 ∷ 160 ∷ codes "-" ++ 195 ∷ 191 ∷ codes "]", 195 ∷ 169 ∷ []), Some true)
    ∷ ((codes "[*?]", codes "*"), Some true)
    ∷ ((codes "[*?]", codes "x"), Some false)
    ∷ []

sets : Answers matches sets_cases
unfolding opened
sets = refl

-- a set without an end has a place

open_set_1 : HasOpenSet 0 (chars (codes "[a"))
unfolding opened
open_set_1 = record { front = []; rest = codes "a"; items_are = refl; spelled = refl; never_closed = refl; place = refl }

open_set_2 : HasOpenSet 0 (chars (codes "["))
unfolding opened
open_set_2 = record { front = []; rest = []; items_are = refl; spelled = refl; never_closed = refl; place = refl }

open_set_3 : HasOpenSet 1 (chars (codes "a["))
unfolding opened
open_set_3 = record { front = Only 97 ∷ []; rest = []; items_are = refl; spelled = refl; never_closed = refl; place = refl }

open_set_4 : HasOpenSet 3 (chars (codes "[a][b"))
unfolding opened
open_set_4 = record { front = OneOf (codes "a") ∷ []; rest = codes "b"; items_are = refl; spelled = refl; never_closed = refl; place = refl }

open_set_5 : HasOpenSet 2 (chars (codes "*?[!"))
unfolding opened
open_set_5 = record { front = AnyRun ∷ AnyOne ∷ []; rest = codes "!"; items_are = refl; spelled = refl; never_closed = refl; place = refl }

open_set_6 : HasOpenSet 2 (chars (195 ∷ 169 ∷ codes "["))
unfolding opened
open_set_6 = record { front = Only 233 ∷ []; rest = []; items_are = refl; spelled = refl; never_closed = refl; place = refl }

open_set_7 : HasOpenSet 5 (chars (codes "[" ++ 195 ∷ 169 ∷ codes "]x[y[z"))
unfolding opened
open_set_7 = record { front = OneOf (233 ∷ []) ∷ Only 120 ∷ []; rest = codes "y[z"; items_are = refl; spelled = refl; never_closed = refl; place = refl }

-- ---- whether a text is an expression: each word of the language, with values that it may have

abbrev is_expression : List ℕ → Bool
is_expression text = is_some (formula_in text)

abbrev words_cases : List (List ℕ × Bool)
words_cases =
    (codes "anything", true)
    ∷ (codes "nothing", true)
    ∷ (codes "present", true)
    ∷ (codes "securehash", true)
    ∷ (codes "standard", true)
    ∷ (codes "groupwanted", true)
    ∷ (codes "include=[a-z]*", true)
    ∷ (codes "exclude=*/archive/*", true)
    ∷ (codes "include=foo=bar", true)
    ∷ (codes "copies=2", true)
    ∷ (codes "copies=999999999", true)
    ∷ (codes "copies=trusted:1", true)
    ∷ (codes "copies=semitrusted+:2", true)
    ∷ (codes "copies=untrusted+:0", true)
    ∷ (codes "copies=a:b:3", true)
    ∷ (codes "copies=dead:1", true)
    ∷ (codes "copies=dead+:1", true)
    ∷ (codes "lackingcopies=0", true)
    ∷ (codes "inallgroup=backup", true)
    ∷ (codes "onlyingroup=client", true)
    ∷ (codes "inbackend=SHA256E", true)
    ∷ (codes "largerthan=100mb", true)
    ∷ (codes "smallerthan=0", true)
    ∷ (codes "largerthan=18446744073709551615", true)
    ∷ (codes "largerthan=18446744073709551kb", true)
    ∷ []

words : Answers is_expression words_cases
unfolding opened
words = refl

-- at most 64 `(` and `not` are open at once; what is closed is no longer open
abbrev deep_cases : List (List ℕ × Bool)
deep_cases =
    (concat (replicate 64 (codes "not ")) ++ codes "anything", true)
    ∷ (concat (replicate 100 (codes "not (not present) ")) ++ codes "anything", true)
    ∷ (concat (replicate 100 (codes "(present) or ")) ++ codes "anything", true)
    ∷ []

deep : Answers is_expression deep_cases
unfolding opened
deep = refl

-- an expression has at most 4,096 bytes
abbrev long_cases : List (List ℕ × Bool)
long_cases =
    (replicate 4088 32 ++ codes "anything", true)
    ∷ []

long : Answers is_expression long_cases
unfolding opened
long = refl

-- ---- texts that are read as one formula. `and` and `or` are taken from left to right

abbrev AreAlike : List (List ℕ × List ℕ) → Type 0
AreAlike cases = (list_all (λ c. is_expression c.0) cases ≡ true) × (map (λ c. formula_in c.0) cases ≡ map (λ c. formula_in c.1) cases)

abbrev operators_cases : List (List ℕ × List ℕ)
operators_cases =
    (codes "present", codes "(present)")
    ∷ (codes "present and standard", codes "(present and standard)")
    ∷ (codes "present or standard", codes "(present) or (standard)")
    ∷ (codes "present standard", codes "present and standard")
    ∷ (codes "present(standard)", codes "present and standard")
    ∷ (codes "(present)standard", codes "present and standard")
    ∷ (codes "(present)(standard)", codes "present and standard")
    ∷ (codes "present and standard or groupwanted", codes "((present and standard) or groupwanted)")
    ∷ (codes "present or standard and groupwanted", codes "((present or standard) and groupwanted)")
    ∷ (codes "present or standard groupwanted", codes "(present or standard) and groupwanted")
    ∷ (codes "present standard or groupwanted", codes "(present and standard) or groupwanted")
    ∷ (codes "present and (standard or groupwanted)", codes "(present) and ((standard) or (groupwanted))")
    ∷ (codes "present or (standard and groupwanted) or nothing", codes "((present or (standard and groupwanted)) or nothing)")
    ∷ (codes "present or standard or groupwanted or nothing", codes "(((present or standard) or groupwanted) or nothing)")
    ∷ (codes "present standard groupwanted nothing", codes "(((present and standard) and groupwanted) and nothing)")
    ∷ []

operators : AreAlike operators_cases
unfolding opened
operators = (refl, refl)

-- `not` takes one term
abbrev negations_cases : List (List ℕ × List ℕ)
negations_cases =
    (codes "not present", codes "(not (present))")
    ∷ (codes "not present and standard", codes "(not present) and standard")
    ∷ (codes "not present or standard", codes "(not present) or standard")
    ∷ (codes "not present standard", codes "(not present) and standard")
    ∷ (codes "not not present", codes "not (not present)")
    ∷ (codes "not not not present", codes "not (not (not present))")
    ∷ (codes "present and not standard or groupwanted", codes "(present and (not standard)) or groupwanted")
    ∷ (codes "present not standard", codes "present and (not standard)")
    ∷ (codes "not(present or standard)", codes "(not (present or standard))")
    ∷ (codes "not (present or standard) and groupwanted", codes "(not (present or standard)) and groupwanted")
    ∷ (codes "not (not present or standard)", codes "not ((not present) or standard)")
    ∷ []

negations : AreAlike negations_cases
unfolding opened
negations = (refl, refl)

-- words have several spellings
abbrev spellings_cases : List (List ℕ × List ℕ)
spellings_cases =
    (codes "  present  ", codes "present")
    ∷ (codes "\"present\"", codes "present")
    ∷ (codes "pre\"sen\"t", codes "present")
    ∷ (codes "\"not\" present", codes "not present")
    ∷ (codes "present \"or\" standard", codes "present or standard")
    ∷ (codes "include=\"my music/*\"", codes "include=my\" \"music/*")
    ∷ (codes "\"include=a(1)*\"", codes "include=a\"(\"1\")\"*")
    ∷ (codes "copies=007", codes "copies=7")
    ∷ (codes "approxlackingcopies=1", codes "lackingcopies=1")
    ∷ (codes "largerthan=1kb", codes "largerthan=1000")
    ∷ (codes "largerthan=2mb", codes "largerthan=2000kb")
    ∷ (codes "smallerthan=3gb", codes "smallerthan=3000mb")
    ∷ (codes "copies=0:1", codes "copies=\"0:1\"")
    ∷ []

spellings : AreAlike spellings_cases
unfolding opened
spellings = (refl, refl)

-- expressions of the manual pages of git-annex
abbrev manual_cases : List (List ℕ × List ℕ)
manual_cases =
    (codes "include=*.mp3 or include=*.ogg", codes "(include=*.mp3) or (include=*.ogg)")
    ∷ (codes "(include=*.mp3 or include=*.ogg) and smallerthan=10mb", codes "((include=*.mp3 or include=*.ogg) and (smallerthan=10mb))")
    ∷ (codes "include=* and ((exclude=*/archive/* and exclude=archive/*) or (not (copies=archive:1 or copies=smallarchive:1))) or approxlackingcopies=1", codes "((include=*) and (((exclude=*/archive/*) and (exclude=archive/*)) or (not ((copies=archive:1) or (copies=smallarchive:1))))) or (approxlackingcopies=1)")
    ∷ (codes "not (inallgroup=client and copies=client:2) and ((((exclude=*/archive/* and exclude=archive/*) or (not (copies=archive:1 or copies=smallarchive:1))) or approxlackingcopies=1))", codes "(not ((inallgroup=client) and (copies=client:2))) and ((((exclude=*/archive/*) and (exclude=archive/*)) or (not ((copies=archive:1) or (copies=smallarchive:1)))) or (approxlackingcopies=1))")
    ∷ (codes "(include=* and (not copies=incrementalbackup:1)) or approxlackingcopies=1", codes "((include=*) and (not (copies=incrementalbackup:1))) or (approxlackingcopies=1)")
    ∷ (codes "(not (copies=archive:1 or copies=smallarchive:1)) or approxlackingcopies=1", codes "((not ((copies=archive:1) or (copies=smallarchive:1))) or (approxlackingcopies=1))")
    ∷ (codes "not (copies=1)", codes "not copies=1")
    ∷ (codes "not anything", codes "(not (anything))")
    ∷ (codes "present or (include=*.txt and copies=trusted:1)", codes "(present) or ((include=*.txt) and (copies=trusted:1))")
    ∷ (codes "not copies=archive:1 or approxlackingcopies=1", codes "(not (copies=archive:1)) or (approxlackingcopies=1)")
    ∷ (codes "exclude=*archive/* or not copies=archive:1 or approxlackingcopies=1", codes "((exclude=*archive/*) or (not (copies=archive:1))) or (approxlackingcopies=1)")
    ∷ []

manual : AreAlike manual_cases
unfolding opened
manual = (refl, refl)

-- other formulas are told apart

abbrev present : Formula
present = Atom Present

abbrev standard : Formula
standard = Atom Standard

abbrev groupwanted : Formula
groupwanted = Atom GroupWanted

abbrev different_cases : List (List ℕ × Option Formula)
different_cases =
    (codes "present or standard and groupwanted", Some (Conjunction (Disjunction present standard) groupwanted))
    ∷ (codes "present or (standard and groupwanted)", Some (Disjunction present (Conjunction standard groupwanted)))
    ∷ (codes "not present and standard", Some (Conjunction (Negation present) standard))
    ∷ (codes "not (present and standard)", Some (Negation (Conjunction present standard)))
    ∷ (codes "present and standard", Some (Conjunction present standard))
    ∷ (codes "standard and present", Some (Conjunction standard present))
    ∷ (codes "not not present", Some (Negation (Negation present)))
    ∷ (codes "present", Some present)
    ∷ []

different : Answers formula_in different_cases
unfolding opened
different = refl

-- ---- whether an expression holds. A claimant is the number of a repository, its level and a group of it. Of the
-- repositories that are not dead 1 is in the group archive, 2 and 3 in client; the key is a SHA256E of 3,000 bytes, which
-- is not present; `standard` holds, and `groupwanted` doesn't. Without a path the size is unknown too.

abbrev number : ℕ → List ℕ
number n = replicate 6 0 ++ 64 ∷ 0 ∷ 128 ∷ replicate 6 0 ++ n ∷ []

abbrev claimant : ℕ → Level → List ℕ → Claimant
claimant n level group = record { repo = number n; level = level; groups = group ∷ [] }

abbrev member : ℕ → List ℕ → Member
member n group = record { repo = number n; group = group }

abbrev facts : Option (List ℕ) → ℕ → List Claimant → Facts
facts path numcopies claimed = record {
  path = path;
  backend = codes "SHA256E";
  size = option_map (λ _. 3000) path;
  present = false;
  numcopies = numcopies;
  claimed = claimed;
  members = member 1 (codes "archive") ∷ member 2 (codes "client") ∷ member 3 (codes "client") ∷ [];
  standard = true;
  groupwanted = false;
}

abbrev holds_by : Facts → List ℕ → Option Bool
holds_by f text = option_map (λ formula. holds formula f) (formula_in text)

abbrev words_hold_cases : List (List ℕ × Option Bool)
words_hold_cases =
    (codes "anything", Some true)
    ∷ (codes "nothing", Some false)
    ∷ (codes "present", Some false)
    ∷ (codes "include=*.txt", Some true)
    ∷ (codes "include=*.md", Some false)
    ∷ (codes "exclude=*.txt", Some false)
    ∷ (codes "exclude=*.md", Some true)
    ∷ (codes "inallgroup=archive", Some true)
    ∷ (codes "inallgroup=client", Some false)
    ∷ (codes "inallgroup=unknown", Some true)
    ∷ (codes "onlyingroup=archive", Some false)
    ∷ (codes "inbackend=SHA256E", Some true)
    ∷ (codes "inbackend=SHA256", Some false)
    ∷ (codes "securehash", Some true)
    ∷ (codes "largerthan=2kb", Some true)
    ∷ (codes "largerthan=3kb", Some false)
    ∷ (codes "smallerthan=3kb", Some false)
    ∷ (codes "smallerthan=3001", Some true)
    ∷ (codes "standard", Some true)
    ∷ (codes "groupwanted", Some false)
    ∷ []

words_hold : Answers (holds_by (facts (Some (codes "doc/y.txt")) 3 (claimant 1 levels.Trusted (codes "archive") ∷ claimant 2 levels.Semitrusted (codes "client") ∷ []))) words_hold_cases
unfolding opened
words_hold = refl

-- copies are counted
abbrev copies_hold_cases : List (List ℕ × Option Bool)
copies_hold_cases =
    (codes "copies=0", Some true)
    ∷ (codes "copies=1", Some true)
    ∷ (codes "copies=2", Some true)
    ∷ (codes "copies=3", Some false)
    ∷ (codes "not copies=2", Some false)
    ∷ (codes "copies=trusted:1", Some true)
    ∷ (codes "copies=trusted:2", Some false)
    ∷ (codes "copies=semitrusted:1", Some true)
    ∷ (codes "copies=semitrusted+:2", Some true)
    ∷ (codes "copies=untrusted:1", Some false)
    ∷ (codes "copies=untrusted+:2", Some true)
    ∷ (codes "copies=archive:1", Some true)
    ∷ (codes "copies=archive:2", Some false)
    ∷ (codes "copies=unknown:0", Some true)
    ∷ (codes "lackingcopies=0", Some true)
    ∷ (codes "lackingcopies=1", Some true)
    ∷ (codes "lackingcopies=2", Some false)
    ∷ (codes "approxlackingcopies=1", Some true)
    ∷ []

copies_hold : Answers (holds_by (facts (Some (codes "doc/y.txt")) 3 (claimant 1 levels.Trusted (codes "archive") ∷ claimant 2 levels.Semitrusted (codes "client") ∷ claimant 3 levels.Dead (codes "archive") ∷ []))) copies_hold_cases
unfolding opened
copies_hold = refl

-- operators hold from left to right; no repository is claimed
abbrev operators_hold_cases : List (List ℕ × Option Bool)
operators_hold_cases =
    (codes "not present", Some true)
    ∷ (codes "include=*.txt or include=*.md and include=x*", Some false)
    ∷ (codes "include=*.txt include=*.md", Some false)
    ∷ (codes "anything or anything and nothing", Some false)
    ∷ (codes "anything or (anything and nothing)", Some true)
    ∷ (codes "not nothing and nothing", Some false)
    ∷ (codes "not nothing or anything", Some true)
    ∷ (codes "not (nothing or anything)", Some false)
    ∷ (codes "copies=semitrusted+:2", Some false)
    ∷ []

operators_hold : Answers (holds_by (facts (Some (codes "doc/y.txt")) 3 [])) operators_hold_cases
unfolding opened
operators_hold = refl

-- the expressions of the standard groups backup, source, archive, client and unwanted
abbrev standard_nowhere_cases : List (List ℕ × Option Bool)
standard_nowhere_cases =
    (codes "anything", Some true)
    ∷ (codes "not copies=1", Some true)
    ∷ (codes "not copies=archive:1 or approxlackingcopies=1", Some true)
    ∷ (codes "exclude=*archive/* or not copies=archive:1 or approxlackingcopies=1", Some true)
    ∷ (codes "nothing", Some false)
    ∷ []

standard_nowhere : Answers (holds_by (facts (Some (codes "a")) 1 [])) standard_nowhere_cases
unfolding opened
standard_nowhere = refl

abbrev standard_here_cases : List (List ℕ × Option Bool)
standard_here_cases =
    (codes "anything", Some true)
    ∷ (codes "not copies=1", Some false)
    ∷ (codes "not copies=archive:1 or approxlackingcopies=1", Some false)
    ∷ (codes "exclude=*archive/* or not copies=archive:1 or approxlackingcopies=1", Some true)
    ∷ (codes "nothing", Some false)
    ∷ []

standard_here : Answers (holds_by (facts (Some (codes "a")) 1 (claimant 1 levels.Semitrusted (codes "archive") ∷ []))) standard_here_cases
unfolding opened
standard_here = refl

abbrev standard_in_archive_cases : List (List ℕ × Option Bool)
standard_in_archive_cases =
    (codes "anything", Some true)
    ∷ (codes "not copies=1", Some false)
    ∷ (codes "not copies=archive:1 or approxlackingcopies=1", Some false)
    ∷ (codes "exclude=*archive/* or not copies=archive:1 or approxlackingcopies=1", Some false)
    ∷ (codes "nothing", Some false)
    ∷ []

standard_in_archive : Answers (holds_by (facts (Some (codes "archive/a")) 1 (claimant 1 levels.Semitrusted (codes "archive") ∷ []))) standard_in_archive_cases
unfolding opened
standard_in_archive = refl

abbrev standard_at_client_cases : List (List ℕ × Option Bool)
standard_at_client_cases =
    (codes "anything", Some true)
    ∷ (codes "not copies=1", Some false)
    ∷ (codes "not copies=archive:1 or approxlackingcopies=1", Some true)
    ∷ (codes "exclude=*archive/* or not copies=archive:1 or approxlackingcopies=1", Some true)
    ∷ (codes "nothing", Some false)
    ∷ []

standard_at_client : Answers (holds_by (facts (Some (codes "archive/a")) 1 (claimant 2 levels.Semitrusted (codes "client") ∷ []))) standard_at_client_cases
unfolding opened
standard_at_client = refl

abbrev standard_untrusted_cases : List (List ℕ × Option Bool)
standard_untrusted_cases =
    (codes "anything", Some true)
    ∷ (codes "not copies=1", Some false)
    ∷ (codes "not copies=archive:1 or approxlackingcopies=1", Some true)
    ∷ (codes "exclude=*archive/* or not copies=archive:1 or approxlackingcopies=1", Some true)
    ∷ (codes "nothing", Some false)
    ∷ []

standard_untrusted : Answers (holds_by (facts (Some (codes "archive/a")) 1 (claimant 1 levels.Untrusted (codes "archive") ∷ []))) standard_untrusted_cases
unfolding opened
standard_untrusted = refl

-- without a path
abbrev unknown_hold_cases : List (List ℕ × Option Bool)
unknown_hold_cases =
    (codes "include=*", Some false)
    ∷ (codes "exclude=*", Some true)
    ∷ (codes "largerthan=0", Some false)
    ∷ (codes "smallerthan=1gb", Some false)
    ∷ (codes "onlyingroup=client", Some false)
    ∷ (codes "inallgroup=client", Some false)
    ∷ []

unknown_hold : Answers (holds_by (facts None 3 [])) unknown_hold_cases
unfolding opened
unknown_hold = refl

-- ---- whether `groupwanted` stands in an expression

abbrev has_word : List ℕ → Option Bool
has_word text = option_map has_groupwanted (formula_in text)

abbrev groupwanted_stands_cases : List (List ℕ × Option Bool)
groupwanted_stands_cases =
    (codes "groupwanted", Some true)
    ∷ (codes "present or not (standard and groupwanted)", Some true)
    ∷ (codes "standard", Some false)
    ∷ (codes "copies=groupwanted:1", Some false)
    ∷ []

groupwanted_stands : Answers has_word groupwanted_stands_cases
unfolding opened
groupwanted_stands = refl
