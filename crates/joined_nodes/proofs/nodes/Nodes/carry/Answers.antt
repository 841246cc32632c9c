-- What the proof of `nodes::Nodes::carry` needs beside the tactics.
use Rattle.std.proofs.Common.{length, subst, sym, ap, ◌∙◌}
use Rattle.std.specs.Prelude.{slice_get}
use Rattle.joined_nodes.specs.Carrying.{AreCarriedTo}
use Rattle.joined_nodes.proofs.CarriedAll.{all_carried, other_carried, other_links, written}
use Rattle.joined_nodes.proofs.nodes.Nodes.carry.Goals as goal

pub returns-clause-others : goal.returns-clause-others
returns-clause-others g c = λ i apart n m at_n at_m.
    let was = c.args.self.now in
    let inside = c.self.inside.nodes in
    let new = c.carry_all.new.nodes in
    let carried : AreCarriedTo (length was) c.args.repo was new = subst (λ xs. AreCarriedTo (length xs) c.args.repo xs new) (c.as_mut_slice.ensures.value ∙ c.self.view_is) c.carry_all.ensures in
    other_carried c.args.repo was new c.requires.there carried i n m apart at_n
    (ap (λ xs. slice_get xs i) (sym (written inside.items new inside.len inside.ok.0 (c.carry_all.ensures.count ∙ ap length c.as_mut_slice.ensures.value))) ∙ at_m)

pub returns-clause-other_links : goal.returns-clause-other_links
returns-clause-other_links g c = λ i node apart at n m at_n at_m.
    let was = c.args.self.now in
    let inside = c.self.inside.nodes in
    let new = c.carry_all.new.nodes in
    let carried : AreCarriedTo (length was) c.args.repo was new = subst (λ xs. AreCarriedTo (length xs) c.args.repo xs new) (c.as_mut_slice.ensures.value ∙ c.self.view_is) c.carry_all.ensures in
    other_links c.args.repo was new carried i node n m apart at at_n
    (ap (λ xs. slice_get xs i) (sym (written inside.items new inside.len inside.ok.0 (c.carry_all.ensures.count ∙ ap length c.as_mut_slice.ensures.value))) ∙ at_m)

pub returns-clause-links : goal.returns-clause-links
returns-clause-links g c = λ n m at_n at_m.
    let was = c.args.self.now in
    let inside = c.self.inside.nodes in
    let new = c.carry_all.new.nodes in
    let carried : AreCarriedTo (length was) c.args.repo was new = subst (λ xs. AreCarriedTo (length xs) c.args.repo xs new) (c.as_mut_slice.ensures.value ∙ c.self.view_is) c.carry_all.ensures in
    all_carried c.args.repo was new carried n m at_n
    (ap (λ xs. slice_get xs c.args.repo) (sym (written inside.items new inside.len inside.ok.0 (c.carry_all.ensures.count ∙ ap length c.as_mut_slice.ensures.value))) ∙ at_m)
