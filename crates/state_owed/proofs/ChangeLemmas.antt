-- What an entry changes of the lines that are owed, and of whose copies these are.
use Rattle.std.proofs.Common.{◌≡◌, ℕ, ◌<◌, Bool, false, List, [], ◌∷◌, drop, length, get_or, map, Option, Some, None, IfSome, sym, ap, subst, arith}
use Rattle.std.specs.Option.{option_to_list}
use Rattle.annex_base.specs.Lists.{Each}
use Rattle.annex_base.proofs.Lists.{Each-drop, Each-push}
use Rattle.run_data.specs.declared.entry.By.{By}
use Rattle.run_data.specs.declared.entry.By.TheVariants.{Script, Job as by_job}
use Rattle.p2p_wire.specs.declared.message.Message.{Message}
use Rattle.p2p_wire.specs.declared.message.Message.TheVariants.{AlreadyHave, Success}
use Rattle.node_model.specs.Jobs.{Orders, Phase, PutsAnswer, PutsOffer, Work, partner}
use Rattle.node_model.specs.OwedLines.{OwedLine, owed_for, owed_line, told_to}
use Rattle.state_owed.specs.Changes.{AddsWithin, TalksWithin, changed, told_by}
use Rattle.state_owed.specs.Lines.{IsWithin}
use Rattle.state_owed.specs.declared.changes.OwedChange.{OwedChange}
use Rattle.state_owed.specs.declared.changes.OwedChange.TheVariants as changes

-- ---- the first line

pub first_of : {X : Type 0} (xs : List X) (x : X) → 0 < length xs → x ≡ get_or xs 0 x → xs ≡ x ∷ drop 1 xs
first_of [] x within is = absurd (omega (arith, within))
first_of {X} (y ∷ ys) x within is = ap (λ (z : X). z ∷ ys) (sym is)

-- ---- whose copies they are

pub some_within : (count : ℕ) (o : Option OwedLine) (os : List OwedLine) → option_to_list o ≡ os → Each (IsWithin count) os → IfSome o (IsWithin count)
some_within count None os is all = tt
some_within count (Some o) os is all = (subst (Each (IsWithin count)) (sym is) all).0

pub own_within : (count r : ℕ) (by : By) (there : Bool) (key : List ℕ) → r < count → Each (IsWithin count) (owed_for r by there key)
own_within count r Script there key within = tt
own_within count r by there key within = (within, tt)

order_within : (count : ℕ) (w : Work) (peer : Option ℕ) → IfSome peer (λ p. p < count) → Each (IsWithin count) (map (λ p. owed_line (by_job w.number) p false w.what.key) (option_to_list peer))
order_within count w None own = tt
order_within count w (Some p) own = (own, tt)

told_to_within : (count : ℕ) (w : Work) (phase : Phase) (m : Message) → IfSome w.what.peer (λ p. p < count) → IfSome (partner w.what.peer phase) (λ p. p < count) → Each (IsWithin count) (told_to w phase m)
told_to_within count w (PutsOffer peer) AlreadyHave own talks = (talks, tt)
told_to_within count w (PutsAnswer peer start) Success own talks = (talks, tt)
told_to_within count w Orders Success own talks = order_within count w w.what.peer own
told_to_within count w phase m own talks = tt

pub told_within : (count : ℕ) (job : Option Work) (heard : Option Message) → IfSome job (TalksWithin count) → Each (IsWithin count) (told_by job heard)
told_within count None heard talks = tt
told_within count (Some w) None talks = tt
told_within count (Some w) (Some m) talks = told_to_within count w w.phase m talks.own talks.talks

pub changed_within : (count : ℕ) (change : OwedChange) (was : List OwedLine) → AddsWithin count change → Each (IsWithin count) was → Each (IsWithin count) (changed change was)
changed_within count changes.Stay was adds all = all
changed_within count (changes.Adds o) was adds all = Each-push (IsWithin count) was o all adds
changed_within count changes.FirstGoes was adds all = Each-drop (IsWithin count) 1 was all
changed_within count changes.AllGo was adds all = tt
