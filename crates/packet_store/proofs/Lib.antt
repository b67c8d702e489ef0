pub mod Pockets
mod Free
mod OwnPockets
mod Shelves
