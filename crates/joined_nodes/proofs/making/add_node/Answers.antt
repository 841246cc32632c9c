-- What the proof of `making::add_node` needs beside the tactics.
use Rattle.std.proofs.Common.{arith, ◌≡◌, ◌<◌, ◌*◌, ◌∷◌, [], length, replicate, sym, ap, subst, ◌∙◌}
use Rattle.std.specs.Prelude.{slice_get}
use Rattle.annex_base.specs.Lists.{Each}
use Rattle.annex_base.proofs.Lists.{Each-right}
use Rattle.link_ring.specs.Ends.{fresh}
use Rattle.joined_nodes.specs.Making.{AreFresh}
use Rattle.joined_nodes.specs.Joined.{IsNew, ids_of, setup_of}
use Rattle.joined_nodes.proofs.Made.{suits}
use Rattle.joined_nodes.proofs.making.add_node.Goals as goal

pub new-requires-clause-own : goal.new-requires-clause-own
new-requires-clause-own g c =
    let at : c.len.result < length c.args.repos.now = omega (arith, c.len.ensures, c.args.nodes.now.ok.0, c.requires.there) in
    (suits c.args.repos.now c.len.result c.in_ok-setup.setup c.requires.run at c.in_ok-setup.ensures).own

pub new-requires-clause-apart : goal.new-requires-clause-apart
new-requires-clause-apart g c =
    let at : c.len.result < length c.args.repos.now = omega (arith, c.len.ensures, c.args.nodes.now.ok.0, c.requires.there) in
    (suits c.args.repos.now c.len.result c.in_ok-setup.setup c.requires.run at c.in_ok-setup.ensures).apart

pub new-requires-clause-offset : goal.new-requires-clause-offset
new-requires-clause-offset g c =
    let at : c.len.result < length c.args.repos.now = omega (arith, c.len.ensures, c.args.nodes.now.ok.0, c.requires.there) in
    (suits c.args.repos.now c.len.result c.in_ok-setup.setup c.requires.run at c.in_ok-setup.ensures).offset

pub new-requires-clause-oldest : goal.new-requires-clause-oldest
new-requires-clause-oldest g c =
    let at : c.len.result < length c.args.repos.now = omega (arith, c.len.ensures, c.args.nodes.now.ok.0, c.requires.there) in
    (suits c.args.repos.now c.len.result c.in_ok-setup.setup c.requires.run at c.in_ok-setup.ensures).oldest

pub new-requires-clause-newest : goal.new-requires-clause-newest
new-requires-clause-newest g c =
    let at : c.len.result < length c.args.repos.now = omega (arith, c.len.ensures, c.args.nodes.now.ok.0, c.requires.there) in
    (suits c.args.repos.now c.len.result c.in_ok-setup.setup c.requires.run at c.in_ok-setup.ensures).newest

pub new-requires-clause-few : goal.new-requires-clause-few
new-requires-clause-few g c =
    let at : c.len.result < length c.args.repos.now = omega (arith, c.len.ensures, c.args.nodes.now.ok.0, c.requires.there) in
    (suits c.args.repos.now c.len.result c.in_ok-setup.setup c.requires.run at c.in_ok-setup.ensures).few

pub new-requires-clause-links : goal.new-requires-clause-links
new-requires-clause-links g c =
    let at : c.len.result < length c.args.repos.now = omega (arith, c.len.ensures, c.args.nodes.now.ok.0, c.requires.there) in
    let fits = suits c.args.repos.now c.len.result c.in_ok-setup.setup c.requires.run at c.in_ok-setup.ensures in
    let last = Each-right (AreFresh (length c.args.repos.now)) c.pop.new.self.items (c.in-Some.own ∷ []) (subst (Each (AreFresh (length c.args.repos.now))) c.in-Some.ensures.items c.requires.fresh) in
    last.0 ∙ ap (λ n. replicate (n * 8) fresh) (sym fits.count)

pub returns-clause-ok : goal.returns-clause-ok
returns-clause-ok g c =
    let place : c.len.result ≡ length c.args.nodes.now.items = c.len.ensures ∙ c.args.nodes.now.ok.0 in
    record {
      node = c.in_ok-node.node;
      adds = c.push_reserved.ensures.items;
      new = λ repo at. subst (λ setup. IsNew setup c.args.keeper c.in_ok-node.node)
          (c.in_ok-setup.ensures repo (ap (slice_get c.args.repos.now) place ∙ at) ∙ ap (λ n. setup_of (ids_of c.args.repos.now) n repo) place)
          (record { node = c.in_ok-node.ensures.node; table = c.in_ok-node.ensures.table; links = c.in_ok-node.ensures.links; jobs = c.in_ok-node.ensures.jobs });
    }
