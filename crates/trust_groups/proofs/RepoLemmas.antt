-- The repositories that entries speak of: which they are, and that they stand in order.
use Rattle.std.proofs.Common.{◌≡◌, inl, inr, ℕ, Bool, List, [], ◌∷◌, ◌++◌, filter, map, refl, sym, ap, subst, ◌∙◌}
use Rattle.std.specs.declared.cmp.Ordering.TheVariants.{Less}
use Rattle.std.specs.List.{AllByRecursion}
use Rattle.std.specs.List.Sorted.{IsStrictlySortedBy}
use Rattle.annex_base.specs.ByteOrder.{text_cmp}
use Rattle.annex_base.specs.Lists.{Member}
use Rattle.annex_base.proofs.Conditions.{by_test}
use Rattle.annex_base.proofs.Lists.{Member-append_cases, Member-append_left, Member-append_right}
use Rattle.log_lines.specs.declared.entry.Topic.{Topic}
use Rattle.log_lines.specs.declared.entry.Topic.TheVariants as topics
use Rattle.log_lines.specs.declared.entry.Entry.{Entry}
use Rattle.log_lines.specs.Newest.{topic_cmp}
use Rattle.trust_groups.specs.Settings.{repo_of, repos_of}

-- the topics rise
abbrev pub IsRising : List Entry → Type 0
IsRising es = IsStrictlySortedBy topic_cmp (map (λ e. e.topic) es)

-- each topic is past this one
abbrev ArePast : Topic → List Entry → Type 0
ArePast t es = AllByRecursion (λ u. topic_cmp t u ≡ Less) (map (λ e. e.topic) es)

rising_parts : (e : Entry) (es : List Entry) → IsRising (e ∷ es) → ArePast e.topic es × IsRising es
unfolding IsStrictlySortedBy
rising_parts e es rising = rising

-- ---- which they are

repo_of_member : (t : Topic) (repo : List ℕ) → Member repo (repo_of t) → t ≡ topics.Repo repo
repo_of_member (topics.Repo id) repo (inl is) = ap topics.Repo (sym is)
repo_of_member (topics.Repo id) repo (inr none) = absurd none
repo_of_member (topics.Group name) repo among = absurd among
repo_of_member topics.Whole repo among = absurd among
repo_of_member (topics.Pattern glob) repo among = absurd among

member_repo_of : (t : Topic) (repo : List ℕ) → t ≡ topics.Repo repo → Member repo (repo_of t)
member_repo_of t repo is = subst (λ u. Member repo (repo_of u)) (sym is) (inl refl)

-- an entry among these that speaks of the repository
pub record Speaks (es : List Entry) (repo : List ℕ) : Type 0 where
  pub entry : Entry
  pub among : Member entry es
  pub topic : entry.topic ≡ topics.Repo repo

pub repos_member : (es : List Entry) (repo : List ℕ) → Member repo (repos_of es) → Speaks es repo
repos_member [] repo among = absurd among
repos_member (e ∷ es) repo among = elim (Member-append_cases (repo_of e.topic) (repos_of es) repo among) [
  | inl here ↦ record { entry = e; among = inl refl; topic = repo_of_member e.topic repo here }
  | inr there ↦ let rest = repos_member es repo there in record { entry = rest.entry; among = inr rest.among; topic = rest.topic }
]

pub member_repos : (es : List Entry) (repo : List ℕ) (e : Entry) → Member e es → e.topic ≡ topics.Repo repo → Member repo (repos_of es)
member_repos [] repo e among topic = absurd among
member_repos (x ∷ xs) repo e (inl is) topic =
    Member-append_left (repo_of x.topic) (repos_of xs) repo (member_repo_of x.topic repo (ap (λ (y : Entry). y.topic) (sym is) ∙ topic))
member_repos (x ∷ xs) repo e (inr among) topic = Member-append_right (repo_of x.topic) (repos_of xs) repo (member_repos xs repo e among topic)

-- ---- they stand in order

abbrev AreBelow : List ℕ → List (List ℕ) → Type 0
AreBelow id repos = AllByRecursion (λ repo. text_cmp id repo ≡ Less) repos

below_more : (id : List ℕ) (t : Topic) (repos : List (List ℕ)) → topic_cmp (topics.Repo id) t ≡ Less → AreBelow id repos → AreBelow id (repo_of t ++ repos)
below_more id (topics.Repo other) repos below rest = (below, rest)
below_more id (topics.Group name) repos below rest = rest
below_more id topics.Whole repos below rest = rest
below_more id (topics.Pattern glob) repos below rest = rest

below_past : (p : Entry → Bool) (id : List ℕ) (es : List Entry) → ArePast (topics.Repo id) es → AreBelow id (repos_of (filter p es))
below_past p id [] past = tt
below_past p id (e ∷ es) past =
    by_test (p e)
    (λ t. rw t (below_more id e.topic (repos_of (filter p es)) past.0 (below_past p id es past.1)))
    (λ t. rw t (below_past p id es past.1))

sorted_more : (t : Topic) (repos : List (List ℕ)) → ((id : List ℕ) → t ≡ topics.Repo id → AreBelow id repos) → IsStrictlySortedBy text_cmp repos → IsStrictlySortedBy text_cmp (repo_of t ++ repos)
unfolding IsStrictlySortedBy
sorted_more (topics.Repo id) repos below sorted = (below id refl, sorted)
sorted_more (topics.Group name) repos below sorted = sorted
sorted_more topics.Whole repos below sorted = sorted
sorted_more (topics.Pattern glob) repos below sorted = sorted

pub none_sorted : IsStrictlySortedBy text_cmp []
unfolding IsStrictlySortedBy
none_sorted = tt

pub repos_sorted : (p : Entry → Bool) (es : List Entry) → IsRising es → IsStrictlySortedBy text_cmp (repos_of (filter p es))
repos_sorted p [] rising = none_sorted
repos_sorted p (e ∷ es) rising =
    let parts = rising_parts e es rising in
    by_test (p e)
    (λ t. rw t (sorted_more e.topic (repos_of (filter p es)) (λ id is. below_past p id es (subst (λ u. ArePast u es) is parts.0)) (repos_sorted p es parts.1)))
    (λ t. rw t (repos_sorted p es parts.1))
