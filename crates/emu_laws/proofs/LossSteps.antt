-- LossSteps: single loss words. The words were computed apart, by the ChaCha20 of RFC 8439 with a counter and a nonce of 64
-- bits each, over the key that begins with the seed, 1.
use Rattle.std.specs.Prelude.{◌≡◌, refl, ◌^◌, true, false, [], ◌∷◌, map}
use Rattle.emu_model.specs.Loss.{loss_word, is_lost}
use Rattle.rand_chacha.specs.Block.{block_word, double_rounds, column_round, diagonal_round, quarter_round}
use Rattle.rand_core.specs.Steps.{u32_at}

-- the first words of the instances 0, 1 and 2 of pipe 1: streams of their own
first_words : map (λ k. loss_word 1 1 k 0) (0 ∷ 1 ∷ 2 ∷ []) ≡ 2081084357 ∷ 34611174 ∷ 1782856242 ∷ []
unfolding block_word double_rounds column_round diagonal_round quarter_round u32_at
first_words = refl

-- they are 0.4845, 0.0081 and 0.4151 of 2^32: at a rate of 0.3 the second is lost
second_is_lost : map (λ k. is_lost 1 1 k 0 300000) (0 ∷ 1 ∷ 2 ∷ []) ≡ false ∷ true ∷ false ∷ []
unfolding block_word double_rounds column_round diagonal_round quarter_round u32_at
second_is_lost = refl

-- a stream has 2^68 words, sixteen for each value of the counter: half way it goes on, and at its end it begins again
half_way : loss_word 1 1 0 (2 ^ 67) ≡ 1199709089
unfolding block_word double_rounds column_round diagonal_round quarter_round u32_at
half_way = refl

begins_again : loss_word 1 1 0 (2 ^ 68) ≡ 2081084357
unfolding block_word double_rounds column_round diagonal_round quarter_round u32_at
begins_again = refl
