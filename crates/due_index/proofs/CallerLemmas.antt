-- For crates above: the least of lists of dues, of options and of parts.
pub use Rattle.due_index.proofs.DueOrder.{is_before-order, same_due}
pub use Rattle.due_index.proofs.LeastDues.{best_of-least, least_all, least_all-append, least_all-option, least_leaf, least_leaf-dues, least_of-all, least_of-leaf, lesser-assoc, lesser-comm, lesser-none, lesser-swap}
