use Rattle.message.proofs.Finding.{covered}
use Rattle.message.proofs.message.Message.find_block.Goals as goal

pub returns-then-n-before-clause-law : goal.returns-then-n-before-clause-law
returns-then-n-before-clause-law c = covered _ _

pub returns-then-n-before-2-clause-law : goal.returns-then-n-before-2-clause-law
returns-then-n-before-2-clause-law c = covered _ _

pub returns-clause-law : goal.returns-clause-law
returns-clause-law c = covered _ _
