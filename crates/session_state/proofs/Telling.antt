-- A store goes on to tell its contents.
use Rattle.std.proofs.Common.{◌≡◌, true, List, ℕ, Option, Some, None, ap}
use Rattle.std.specs.Prelude.{is_some}
use Rattle.std.specs.Option.{option_map}
use Rattle.std.proofs.lemmas.Bool.{false≢true}
use Rattle.object_store.specs.Stores.{Contents, Parts, contents_after_commit}

-- after a commit, where the parts are told
pub told_after_commit : (known known' : Option Contents) (parts : Option Parts) (key : List ℕ) → known' ≡ contents_after_commit known parts key → is_some parts ≡ true → is_some known' ≡ is_some known
told_after_commit (Some c) known' (Some p) key is told = ap is_some is
told_after_commit (Some c) known' None key is told = absurd (false≢true told)
told_after_commit None known' parts key is told = ap is_some is

-- after a change of the contents that are told
pub told_after_change : (change : Contents → Contents) (known known' : Option Contents) → known' ≡ option_map change known → is_some known' ≡ is_some known
told_after_change change (Some c) known' is = ap is_some is
told_after_change change None known' is = ap is_some is
