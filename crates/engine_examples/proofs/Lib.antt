mod BenchFacts
mod Standing
