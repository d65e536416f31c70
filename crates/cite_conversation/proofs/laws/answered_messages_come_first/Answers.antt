use Rattle.cite_conversation.proofs.Reaching.{begins_first}
use Rattle.cite_conversation.proofs.laws.answered_messages_come_first.Goals as goal

pub returns : goal.returns
returns c = begins_first
