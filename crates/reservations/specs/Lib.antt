pub mod Reservation
