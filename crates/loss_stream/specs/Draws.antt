-- A stream of loss words as contracts see it.
use Rattle.std.specs.Prelude.{ℕ, ◌%◌, ◌^◌}
use Rattle.rand_chacha.specs.ChaCha.{ChaCha, key_of}
use Rattle.emu_model.specs.Loss.{key_bytes, stream_of}

-- the seed, the pipe and the instance of the words, and the number of words drawn
pub record Draws : Type 0 where
  pub seed : ℕ
  pub pipe : ℕ
  pub instance : ℕ
  pub drawn : ℕ

-- the generator whose next word is that of the packet that arrives as number `place`, from 0
abbrev pub words_of : ℕ → ℕ → ℕ → ℕ → ChaCha
words_of seed pipe instance place = record {
  key = key_of (key_bytes seed);
  stream = stream_of pipe instance;
  word_pos = place % 2 ^ 68;
}
