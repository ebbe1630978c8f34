-- A reply whose whiteboard is lent.
use Rattle.bhs_model.specs.declared.replies.Reply.{Reply}
use Rattle.bhs_model.specs.declared.replies.Reply.TheVariants as replies
use Rattle.bhs_wire.specs.declared.lent.LentReply.{LentReply}
use Rattle.bhs_wire.specs.declared.lent.LentReply.TheVariants.{Here, Written, Changed, Gone, Noted, Bye, Over, No}

-- the reply, without where its whiteboard lies in memory
abbrev pub reply_of : LentReply → Reply
reply_of (Here ports came board) = replies.Here ports came board.now
reply_of Written = replies.Written
reply_of (Changed board) = replies.Changed board.now
reply_of Gone = replies.Gone
reply_of Noted = replies.Noted
reply_of Bye = replies.Bye
reply_of Over = replies.Over
reply_of (No why) = replies.No why
