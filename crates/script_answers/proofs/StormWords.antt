-- Words that ask for a storm.
use Rattle.std.proofs.Common.{◌≡◌, ℕ, ◌≤◌, ◌<◌, List, [], ◌∷◌, length, get_or, Option, Some, None, IfSome, codes, refl, sym, ap, subst, ◌∙◌, arith, ◌^◌}
use Rattle.std.specs.Fmt.{decimal}
use Rattle.annex_base.specs.Decimal.{number_of}
use Rattle.annex_base.proofs.DecimalLemmas.{number_is, number_some}
use Rattle.annex_base.proofs.Lists.{cons_first, cons_rest}
use Rattle.script_answers.specs.declared.storms.Storm.{Storm}
use Rattle.script_answers.specs.declared.status.Status.{Status}
use Rattle.script_answers.specs.declared.status.Status.TheVariants.{Done, Usage, Script, ReadFault, WriteFault, NoMemory, Limit, NotARun, Input}
use Rattle.script_answers.specs.Storms.{AnswersStorm, AreNumbers, IsStormCommand, most_jobs}
use Rattle.script_answers.specs.Top.{AnswersOther, IsRunCommand}

-- words that are read as numbers, of which the second isn't too great
pub are_numbers : (word other : List ℕ) (number jobs : ℕ) → number_of word ≡ Some number → number_of other ≡ Some jobs → jobs ≤ most_jobs → AreNumbers word other number jobs
are_numbers word other number jobs first second few =
    let one = number_some word number first in
    let two = number_some other jobs second in
    record { word_is = one.0; other_is = two.0; small = one.1; few = few }

first_said : (word other : List ℕ) (number jobs : ℕ) → AreNumbers word other number jobs → number_of word ≡ Some number
first_said word other number jobs are = ap number_of are.word_is ∙ number_is number are.small

second_said : (word other : List ℕ) (number jobs : ℕ) → AreNumbers word other number jobs → number_of other ≡ Some jobs
second_said word other number jobs are = let few = are.few in ap number_of are.other_is ∙ number_is jobs (omega (arith, few))

-- words of which one isn't read, or the second is too great
pub no_first : (word other : List ℕ) (number jobs : ℕ) → number_of word ≡ None → AreNumbers word other number jobs → ⊥
no_first word other number jobs none are = let said = first_said word other number jobs are in cc

pub no_second : (word other : List ℕ) (number jobs : ℕ) → number_of other ≡ None → AreNumbers word other number jobs → ⊥
no_second word other number jobs none are = let said = second_said word other number jobs are in cc

pub too_many : (word other : List ℕ) (number jobs read : ℕ) → number_of other ≡ Some read → most_jobs < read → AreNumbers word other number jobs → ⊥
too_many word other number jobs read is many are =
    let said = second_said word other number jobs are in
    let same : read ≡ jobs = cc in
    let few = are.few in
    omega (arith, same, few, many)

-- words of which the first is `storm`, and the others are the numbers of what was read
pub asked_by : (r : Option Storm) (words : List (List ℕ)) (word other : List ℕ) → words ≡ codes "storm" ∷ word ∷ other ∷ []
    → IfSome r (λ s. AreNumbers word other s.number s.jobs) → IfSome r (λ s. IsStormCommand words s.number s.jobs)
asked_by (Some s) words word other seen are = record {
  words_are = seen ∙ ap (λ (w : List ℕ). codes "storm" ∷ w ∷ other ∷ []) are.word_is ∙ ap (λ (w : List ℕ). codes "storm" ∷ decimal s.number ∷ w ∷ []) are.other_is;
  small = are.small;
  few = are.few;
}
asked_by None words word other seen are = tt

-- ---- words ask for one storm at most

decimal_once : (n m : ℕ) → n < 2 ^ 64 → m < 2 ^ 64 → decimal n ≡ decimal m → n ≡ m
decimal_once n m small other e = let same : Some n ≡ Some m = sym (number_is n small) ∙ ap number_of e ∙ number_is m other in cc

storm_once : (words : List (List ℕ)) (n m k l : ℕ) → IsStormCommand words n m → IsStormCommand words k l → (n ≡ k) × (m ≡ l)
storm_once words n m k l first second =
    let are : codes "storm" ∷ decimal n ∷ decimal m ∷ [] ≡ codes "storm" ∷ decimal k ∷ decimal l ∷ [] = sym first.words_are ∙ second.words_are in
    let rest : decimal n ∷ decimal m ∷ [] ≡ decimal k ∷ decimal l ∷ [] = cons_rest (codes "storm") (codes "storm") (decimal n ∷ decimal m ∷ []) (decimal k ∷ decimal l ∷ []) are in
    let last : decimal m ∷ [] ≡ decimal l ∷ [] = cons_rest (decimal n) (decimal k) (decimal m ∷ []) (decimal l ∷ []) rest in
    let few = first.few in
    let other_few = second.few in (
      decimal_once n k first.small second.small (cons_first (decimal n) (decimal k) (decimal m ∷ []) (decimal l ∷ []) rest),
      decimal_once m l (omega (arith, few)) (omega (arith, other_few)) (cons_first (decimal m) (decimal l) [] [] last),
    )

-- so what is answered to the storm that they ask for is what is answered to each
pub answers_same : (words : List (List ℕ)) (s : Storm) (number jobs : ℕ) (taken taken' : Option (List ℕ)) (status : Status) → IsStormCommand words s.number s.jobs → IsStormCommand words number jobs
    → AnswersStorm s.number s.jobs taken taken' status → AnswersStorm number jobs taken taken' status
answers_same words s number jobs taken taken' status first second answers =
    let same = storm_once words s.number s.jobs number jobs first second in
    subst (λ (n : ℕ). AnswersStorm n jobs taken taken' status) same.0 (subst (λ (m : ℕ). AnswersStorm s.number m taken taken' status) same.1 answers)

-- ---- other words

-- the usage line is answered, unless the sink failed
pub usage_only : (taken taken' : Option (List ℕ)) (status : Status) → AnswersOther taken taken' status → (status ≡ WriteFault → ⊥) → status ≡ Usage
usage_only taken taken' Usage answers unless = refl
usage_only taken taken' WriteFault answers unless = absurd (unless refl)
usage_only taken taken' Done answers unless = absurd answers
usage_only taken taken' Script answers unless = absurd answers
usage_only taken taken' ReadFault answers unless = absurd answers
usage_only taken taken' NoMemory answers unless = absurd answers
usage_only taken taken' Limit answers unless = absurd answers
usage_only taken taken' NotARun answers unless = absurd answers
usage_only taken taken' Input answers unless = absurd answers

-- `run` alone asks for none
pub run_is_no_storm : (words : List (List ℕ)) (number jobs : ℕ) → IsRunCommand words → IsStormCommand words number jobs → ⊥
run_is_no_storm words number jobs run storm = let sizes = ap length (sym run ∙ storm.words_are) in omega (arith, sizes)

-- a list of three
pub three_are : {X : Type 0} (xs : List X) (x y z : X) → 3 ≤ length xs → length xs < 4 → x ≡ get_or xs 0 x → y ≡ get_or xs 1 y → z ≡ get_or xs 2 z → xs ≡ x ∷ y ∷ z ∷ []
three_are [] x y z more less first second third = absurd (omega arith)
three_are (a ∷ []) x y z more less first second third = absurd (omega arith)
three_are (a ∷ b ∷ []) x y z more less first second third = absurd (omega arith)
three_are (a ∷ b ∷ c ∷ []) x y z more less first second third = cc
three_are (a ∷ b ∷ c ∷ d ∷ rest) x y z more less first second third = absurd (omega arith)
