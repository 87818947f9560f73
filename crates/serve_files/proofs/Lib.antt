pub mod TakenAhead
