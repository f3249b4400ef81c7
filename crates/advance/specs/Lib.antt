pub mod Advanced
