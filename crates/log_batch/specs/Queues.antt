-- `==` of queues, as it is derived, is the rules' test. Assumes nothing.
use denote.Enum.Bare.{sameb}
use Rattle.std.specs.Prelude.{◌≡◌}
use Rattle.std.proofs.Math.Path.{refl}
use Rattle.pipe_log.specs.contracts.LogQueue.{the_type}
use Rattle.rules.specs.Items.{LogQueue, Append, Rewrite, same_queue}

pub same_as : (a b : LogQueue) → sameb the_type a b ≡ same_queue a b
unfolding same_queue
same_as Append Append = refl
same_as Append Rewrite = refl
same_as Rewrite Append = refl
same_as Rewrite Rewrite = refl
