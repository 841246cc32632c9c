-- What the proof of `scripts::contents_put_first_keep_a_copy` needs beside the tactics.
use Rattle.std.specs.Prelude.{◌++◌, length}
use Rattle.driver_model.specs.Driving.{run_of}
use Rattle.kept_copies.proofs.Placing.{put_first}
use Rattle.kept_copies.proofs.scripts.contents_put_first_keep_a_copy.Goals as goal

pub returns : goal.returns
returns c g first rest key repos all fits none there =
    let w = put_first c.drivers_only_add.ensures.line g first rest key all there in
    c.scripts_keep_a_copy_where_nobody_is_trusted.ensures.whole g (first ++ rest) key w.0 (length (run_of g (first ++ rest)).entries) repos all fits none w.1 w.2
