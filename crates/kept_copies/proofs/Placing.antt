-- A content that one of the first lines of a script put in place stands at a place of its run.
use Rattle.std.proofs.Common.{◌≡◌, ℕ, ◌+◌, ◌<◌, ◌≤◌, true, List, [], ◌∷◌, ◌++◌, length, inl, inr, refl, sym, ap, ◌∙◌, subst, append_assoc, arith, length-append}
use Rattle.std.specs.Prelude.{reverse, take}
use Rattle.std.specs.List.{list_all, list_any}
use Rattle.std.proofs.lemmas.Bool.{and_parts, false≢true, or_cases}
use Rattle.std.proofs.lemmas.List.{append-nil, length-reverse, reverse-reverse, take_at}
use Rattle.annex_base.specs.Lists.{Each}
use Rattle.annex_base.proofs.Conditions.{bytes_eq-true}
use Rattle.run_data.specs.declared.entry.Entry.{Entry}
use Rattle.run_data.specs.declared.run.Run.{Run}
use Rattle.run_model.specs.Past.{present}
use Rattle.run_model.specs.Safety.{copies_at}
use Rattle.script_commands.specs.declared.command.Action.TheVariants.{Add, File, Have}
use Rattle.script_commands.specs.declared.command.Command.{Command}
use Rattle.script_commands.specs.declared.command.Command.TheVariants.{Does, Repo}
use Rattle.driver_model.specs.Driver.{Driver, DriverInput, at_first}
use Rattle.driver_model.specs.Driving.{does, drives, run_of, run_with, with_mark}
use Rattle.driver_model.specs.Scripts.{IsOne}
use Rattle.driver_model.specs.ScriptSteps.{enters, has}
use Rattle.driver_model.specs.Sound.{OnlyAdds}
use Rattle.kept_copies.specs.Scripts.{have_content, prepares, puts_content}
use Rattle.kept_copies.proofs.Coming.{one_has}
use Rattle.kept_copies.proofs.Preparing.{IsCalm, has_calm, has_present}
use Rattle.kept_copies.proofs.Staying.{copies_after}

-- ---- lines leave the entries before them as they are

-- the law of what a line adds, as the lemmas take it
abbrev pub LinesAdd : Type 0
LinesAdd = (g : DriverInput) (line : Command) (d : Driver) → OnlyAdds d (does g line d)

-- the entries begin with those of this past
abbrev pub GoesOn : List Entry → List Entry → Type 0
GoesOn past entries = (more : List Entry) × (entries ≡ reverse past ++ more)

pub goes_further : (past : List Entry) (d after : Driver) → GoesOn past (reverse d.past) → OnlyAdds d after → GoesOn past (reverse after.past)
goes_further past d after x y = (x.0 ++ y.0, y.1 ∙ ap (λ (es : List Entry). es ++ y.0) x.1 ∙ append_assoc (reverse past) x.0 y.0)

drives_adds : LinesAdd → (g : DriverInput) (lines : List Command) (d : Driver) → OnlyAdds d (drives g lines d)
drives_adds law g [] d = ([], sym (append-nil (reverse d.past)))
drives_adds law g (line ∷ lines) d =
    goes_further d.past (does g line d) (drives g lines (with_mark (does g line d))) (law g line d) (drives_adds law g lines (with_mark (does g line d)))

-- ---- one of the first lines

pub entered : (path key : List ℕ) (d : Driver) → IsCalm d → IsCalm (enters path key d)
entered path key d calm = record { no_fails = calm.no_fails; quiet = calm.quiet }

pub marked : (d : Driver) → IsCalm d → IsCalm (with_mark d)
marked d calm = record { no_fails = calm.no_fails; quiet = calm.quiet }

pub stays_calm : (g : DriverInput) (line : Command) (d : Driver) → prepares line ≡ true → IsCalm d → IsCalm (does g line d)
stays_calm g (Repo name id offset version locks) d h calm = calm
stays_calm g (Does (Have r k bytes)) d h calm = has_calm g r k bytes d calm
stays_calm g (Does (Add r path k bytes)) d h calm = has_calm g r k bytes (enters path k d) (entered path k d calm)
stays_calm g (Does (File path k)) d h calm = entered path k d calm
stays_calm g line d h calm = absurd (false≢true h)

-- the content is there after its line
pub puts : (g : DriverInput) (line : Command) (key : List ℕ) (d : Driver) → puts_content key line ≡ true → IsOne g line → IsCalm d
    → (r : ℕ) × (r < length g.repos) × (present (does g line d).past r key ≡ true)
puts g (Does (Have r k bytes)) key d h one calm =
    (r, one.0, subst (λ (x : List ℕ). present (has g r k bytes d).past r x ≡ true) (bytes_eq-true k key h) (has_present g r k bytes d calm))
puts g (Does (Add r path k bytes)) key d h one calm =
    (r, one.0, subst (λ (x : List ℕ). present (has g r k bytes (enters path k d)).past r x ≡ true) (bytes_eq-true k key h) (has_present g r k bytes (enters path k d) (entered path k d calm)))
puts g line key d h one calm = absurd (false≢true h)

-- ---- a place with the content

-- some repository of the run had the content after its first entries, which are those of this past
pub record Had (run : Run) (key : List ℕ) : Type 0 where
  pub past : List Entry
  pub repo : ℕ
  pub known : repo < length run.repos
  pub there : present past repo key ≡ true
  pub first : GoesOn past run.entries

pub comes_by : LinesAdd → (g : DriverInput) (rest : List Command) (key : List ℕ) (first : List Command) (d : Driver) → list_all prepares first ≡ true → list_any (puts_content key) first ≡ true
    → Each (IsOne g) (first ++ rest) → IsCalm d → Had (run_with g (drives g (first ++ rest) d)) key
comes_by law g rest key [] d all some one calm = absurd (false≢true some)
comes_by law g rest key (line ∷ lines) d all some one calm =
    let both = and_parts (prepares line) (list_all prepares lines) all in
    elim (or_cases (puts_content key line) (list_any (puts_content key) lines) some) [
      | inl here ↦ (let w = puts g line key d here one.0 calm in
          record { past = (does g line d).past; repo = w.0; known = w.1; there = w.2; first = drives_adds law g (lines ++ rest) (with_mark (does g line d)) })
      | inr more ↦ comes_by law g rest key lines (with_mark (does g line d)) both.1 more one.1 (marked (does g line d) (stays_calm g line d both.0 calm))
    ]

as_long : (all front more mid : ℕ) → all ≡ front + more → front ≡ mid → mid ≤ all
as_long all front more mid e same = omega (arith, e, same)

pub at_place : (run : Run) (key : List ℕ) → Had run key → (place : ℕ) × (place ≤ length run.entries) × (1 ≤ copies_at run key place)
at_place run key w = (
  length w.past,
  as_long (length run.entries) (length (reverse w.past)) (length w.first.0) (length w.past) (ap length w.first.1 ∙ length-append (reverse w.past) w.first.0) (length-reverse w.past),
  subst (λ (past : List Entry). 1 ≤ copies_after run key past) (sym past_is) (one_has run key w.past w.repo w.known w.there),
)
  where
    past_is : reverse (take (length w.past) run.entries) ≡ w.past
    past_is =
        ap reverse (ap (take (length w.past)) w.first.1 ∙ take_at (reverse w.past) w.first.0 (length w.past) (length-reverse w.past))
        ∙ reverse-reverse w.past

-- no job runs and no call fails as a script begins
pub first_calm : IsCalm at_first
first_calm = record { no_fails = refl; quiet = tt }

-- a place of the run where some repository has the content that the first lines put in place
pub put_first : LinesAdd → (g : DriverInput) (first rest : List Command) (key : List ℕ) → Each (IsOne g) (first ++ rest) → have_content first key ≡ true
    → (place : ℕ) × (place ≤ length (run_of g (first ++ rest)).entries) × (1 ≤ copies_at (run_of g (first ++ rest)) key place)
put_first law g first rest key one there =
    let both = and_parts (list_all prepares first) (list_any (puts_content key) first) there in
    at_place (run_of g (first ++ rest)) key (comes_by law g rest key first at_first both.0 both.1 one first_calm)
