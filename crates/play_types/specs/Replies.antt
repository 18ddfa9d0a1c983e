-- The codes of replies, and which of them report that memory ran out.
use Rattle.std.specs.Prelude.{ℕ, Bool, nat_eq, ◌||◌}
use Rattle.play_types.specs.declared.reply.Reply.{Reply}
use Rattle.play_types.specs.declared.reply.Reply.TheVariants as reply

-- the code with which a reply begins
abbrev pub reply_code : Reply → ℕ
reply_code (reply.Done command) = 202
reply_code (reply.Value micros) = 201
reply_code (reply.Info statuses) = 200
reply_code reply.Cls = 200
reply_code reply.Version = 201
reply_code (reply.Unknown line) = 400
reply_code (reply.Refused code command) = code
reply_code reply.NoMemory = 500

-- whether a reply reports that memory ran out: a 500, for the line, or a 501, for the command
abbrev pub is_out_of_memory : Reply → Bool
is_out_of_memory answer = nat_eq (reply_code answer) 500 || nat_eq (reply_code answer) 501
