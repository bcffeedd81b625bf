-- For private contracts: a message as it is put together.
use Rattle.std.specs.Prelude.{ℕ, List, ◌++◌, decimal}
use Rattle.smap_record.specs.declared.fault.Message.{Message}
use Rattle.smap_record.specs.declared.fault.Message.TheVariants.{Plain, Numbered}

-- the bytes of a message
abbrev pub message_bytes : Message → List ℕ
message_bytes (Plain words) = words.now
message_bytes (Numbered before number after) = before.now ++ (decimal number ++ after.now)
