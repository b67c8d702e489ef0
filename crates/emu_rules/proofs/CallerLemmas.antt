-- For crates above: what a search for one packet tells of packets like it, of counting, and of cached searches that are settled.
pub use Rattle.emu_rules.proofs.Alike.{alone-alike, counted-alone, matched-alike, rules-counted, verdict-alike}
pub use Rattle.emu_rules.proofs.Recounted.{IsOrdered-recounted, IsRecounted-then, behind-recounted, length-recounted, older-recounted, rules-recounted, verdict-recounted}
pub use Rattle.emu_rules.proofs.Settling.{IsRecounted-count_at, IsRecounted-settled, settled-count_at}
