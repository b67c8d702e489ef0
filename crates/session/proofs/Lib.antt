mod MarkFacts
mod CommentFacts
mod RunFacts
mod StopFacts
mod LeastFacts
mod Reporting
mod OpenFacts
mod SessionFacts
