-- The repositories of a script: few, each set up within its bounds, and no two with one identifier.
use Rattle.std.proofs.Common.{◌≡◌, ◌≢◌, ℕ, ◌+◌, ◌≤◌, Bool, true, false, nat_lt, List, [], ◌∷◌, ◌++◌, length, map, AllPairs, Some, None, refl, sym, subst, arith, append_assoc, length-append}
use Rattle.std.specs.Prelude.{bytes_eq, if◌then◌else◌}
use Rattle.std.proofs.lemmas.Bool.{ltb-false, or_parts}
use Rattle.std.proofs.lemmas.List.{append-nil, length-map, map-append}
use Rattle.std.proofs.lemmas.List.Quantifiers.{all_pairs_push}
use Rattle.annex_base.specs.Lists.{Each}
use Rattle.annex_base.proofs.Conditions.{bytes_eq-refl}
use Rattle.annex_base.proofs.Lists.{Each-get_or, Each-push}
use Rattle.run_data.specs.Repos.{IsSetUp}
use Rattle.run_data.specs.declared.run.RepoView.{RepoView}
use Rattle.script_commands.specs.declared.command.Action.{Action}
use Rattle.script_commands.specs.declared.command.Action.TheVariants as actions
use Rattle.script_commands.specs.declared.command.Command.{Command}
use Rattle.script_commands.specs.declared.command.Command.TheVariants as commands
use Rattle.script_forms.specs.declared.context.Repository.{Repository}
use Rattle.script_forms.specs.declared.fault.Quantity.{Quantity}
use Rattle.script_lang.specs.Changes.{change_by, repos_by}
use Rattle.script_lang.specs.Context.{Context, has_id}
use Rattle.script_lang.specs.Limits.{first_limit}
use Rattle.script_lang.specs.Script as script
use Rattle.script_lang.specs.Script.{context_with}
use Rattle.script_lang.specs.Preconditions as standing
use Rattle.driver_script.specs.Lines.{declared_by, repos_of, view_of}
use Rattle.driver_script.proofs.BuiltLemmas.{IsBuilt}

abbrev id_in : RepoView → List ℕ
id_in r = r.id

abbrev Differ : List ℕ → List ℕ → Type 0
Differ a b = a ≢ b

-- the repositories of a run
pub record Declares (repos : List RepoView) : Type 0 where
  pub each : Each IsSetUp repos
  pub few : length repos ≤ 16
  pub apart : AllPairs Differ (map id_in repos)

-- ---- one more

within : (quantity : Quantity) (limit n : ℕ) → (if nat_lt limit n then Some quantity else None) ≡ None → n ≤ limit
within quantity limit n e = from (nat_lt limit n) refl e
  where
    from : (b : Bool) → nat_lt limit n ≡ b → (if b then Some quantity else None) ≡ None → n ≤ limit
    from true is e = absurd cc
    from false is e = ltb-false limit n is

-- a repository whose identifier none has is apart from each
other_id : (id : List ℕ) (d : Repository) → bytes_eq d.id id ≡ false → (view_of d).id ≢ id
other_id id d unlike same = absurd (let alike : bytes_eq d.id id ≡ true = rw same (bytes_eq-refl id) in cc)

new_id : (repos : List Repository) (id : List ℕ) → has_id repos id ≡ false → Each (λ a. a ≢ id) (map id_in (map view_of repos))
new_id [] id unused = tt
new_id (d ∷ repos) id unused =
    let each = or_parts (bytes_eq d.id id) (has_id repos id) unused in
    (other_id id d each.0, new_id repos id each.1)

-- no action declares a repository
action_declares : (a : Action) → repos_by (change_by a) ≡ []
action_declares (actions.Have r key content) = refl
action_declares (actions.SetPart r key content) = refl
action_declares (actions.Add r path key content) = refl
action_declares (actions.File path key) = refl
action_declares (actions.Set r kind topic value) = refl
action_declares (actions.Raw r file line) = refl
action_declares (actions.Merge r other) = refl
action_declares (actions.Compact r) = refl
action_declares (actions.Sync r) = refl
action_declares (actions.Begin r job) = refl
action_declares (actions.Run r job) = refl
action_declares (actions.Turns r turns) = refl
action_declares actions.Settle = refl
action_declares (actions.Close r other) = refl
action_declares (actions.Crash r clock) = refl
action_declares (actions.Wait milliseconds) = refl
action_declares (actions.Fail r call) = refl

none_more : (x : Context) (more : List Repository) → more ≡ [] → Declares (map view_of x.repos) → Declares (map view_of x.repos ++ map view_of more)
none_more x more none d = subst (λ (rs : List Repository). Declares (map view_of x.repos ++ map view_of rs)) (sym none) (subst Declares (sym (append-nil (map view_of x.repos))) d)

one_more : (x : Context) (c : Command) → standing.IsValidIn x c → first_limit x c ≡ None → IsBuilt c → Declares (map view_of x.repos) → Declares (map view_of x.repos ++ declared_by c)
one_more x (commands.Repo name id offset version locks) s p e d =
    let new : RepoView = record { name = name; id = id; offset = offset; version = version; locks = locks } in
    let long = length-append (map view_of x.repos) (new ∷ []) in
    let count = length-map x.repos view_of in
    let few = within _ 16 (length x.repos + 1) p in
    let ids = map-append id_in (map view_of x.repos) (new ∷ []) in
    let fresh = new_id x.repos id s.0.new_id in
    record {
      each = Each-push IsSetUp (map view_of x.repos) new d.each (record { id = s.0.good_id; offset = s.1; oldest = s.2; newest = s.3 });
      few = omega (arith, long, count, few);
      apart = subst (AllPairs Differ) (sym ids) (all_pairs_push Differ (map id_in (map view_of x.repos)) id d.apart (λ k e less. Each-get_or (λ a. a ≢ id) (map id_in (map view_of x.repos)) k e less fresh));
    }
one_more x (commands.Does a) s p e d = none_more x (repos_by (change_by a)) (action_declares a) d
one_more x c s p e d = subst Declares (sym (append-nil (map view_of x.repos))) d

-- ---- all of them

views_with : (x : Context) (c : Command) → map view_of (context_with x c).repos ≡ map view_of x.repos ++ declared_by c
views_with x c = map-append view_of x.repos (script.declared_by c)

pub all_declare : (x : Context) (cs : List Command) → standing.AllStand x cs → Each IsBuilt cs → Declares (map view_of x.repos) → Declares (map view_of x.repos ++ repos_of cs)
all_declare x [] s e d = subst Declares (sym (append-nil (map view_of x.repos))) d
all_declare x (c ∷ cs) s e d =
    let one = one_more x c s.0 s.1 e.0 d in
    let all = all_declare (context_with x c) cs s.2 e.1 (subst Declares (sym (views_with x c)) one) in
    subst Declares (append_assoc (map view_of x.repos) (declared_by c) (repos_of cs)) (subst (λ front. Declares (front ++ repos_of cs)) (views_with x c) all)

pub none_declared : Declares []
none_declared = record { each = tt; few = omega arith; apart = λ i j d less short. absurd (omega (arith, less, short)) }
