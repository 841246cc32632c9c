-- What the proof of `indices::add_known` needs beside the tactics.
use Rattle.std.proofs.Common.{sym, ap, ◌∙◌}
use Rattle.annex_base.proofs.Rows.{lookup-shown, shown-set_value}
use Rattle.trust_groups.specs.Adding.{indices_with}
use Rattle.trust_groups.specs.Reads.{view_of}
use Rattle.trust_groups.proofs.IndexLemmas.{lent_same}
use Rattle.trust_groups.proofs.indices.add_known.Goals as goal

pub returns-in_err-add-in-Some-clause-err : goal.returns-in_err-add-in-Some-clause-err
returns-in_err-add-in-Some-clause-err c =
    lent_same c.from_residual.result c.args.files.now.entries (c.get_mut.follows.lender c.add.new.self).entries c.args.path.now c.in-Some.index.now c.add.new.self (c.get_mut.follows.holds c.add.new.self).0 c.in-Some.ensures.value c.in_err-add-in-Some.ensures.err

pub returns-in_ok-add-in-Some-clause-known : goal.returns-in_ok-add-in-Some-clause-known
returns-in_ok-add-in-Some-clause-known c = λ is. (
  c.in-Some.index.now,
  sym (c.in-Some.ensures.value ∙ lookup-shown c.args.files.now.entries c.args.path.now),
  ap view_of (c.get_mut.follows.holds c.add.new.self).0 ∙ shown-set_value c.args.files.now.entries c.args.path.now c.add.new.self ∙ ap (indices_with (view_of c.args.files.now.entries) c.args.path.now) c.in_ok-add-in-Some.ensures.ok,
)

pub returns-in-None-clause-unknown : goal.returns-in-None-clause-unknown
returns-in-None-clause-unknown c = λ is. (
  sym (c.in-None.ensures.value ∙ lookup-shown c.args.files.now.entries c.args.path.now),
  ap (λ m. view_of m.entries) c.get_mut.follows.holds-at-none,
)
