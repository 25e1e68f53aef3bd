pub mod ReadyInTurn
